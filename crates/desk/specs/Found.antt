-- Kept scans that a desk finds.
use Rattle.std.specs.Prelude.{◌≡◌, ◌+◌, ◌<◌, true, Option, None, Some}
use Rattle.std.specs.Arc.{arc_value}
use Rattle.std.specs.declared.sync.Arc.{Arc}
use Rattle.sp_model.specs.Covers.{covers}
use Rattle.sp_model.specs.declared.scan.ScanNote.{ScanNote}
use Rattle.sp_model.specs.declared.scan.ScanRequest.{ScanRequest}
use Rattle.sp_world.specs.declared.kept_scan.KeptScan.{KeptScan}
use Rattle.desk.specs.States.{DeskState}

-- the cache is on, and the kept scan covers the request and is young enough at the tick of the last reading of the clock
pub record IsFound (s : DeskState) (request : ScanRequest) (kept : KeptScan) : Type 0 where
  pub on : s.settings.options.cache ≡ true
  pub covers : covers kept.note.request kept.complete request ≡ true
  pub young : s.tick < kept.note.asked + s.settings.options.cache_ttl

-- the note of a kept scan
abbrev pub kept_note : {Z : Type 0} → Arc KeptScan Z → ScanNote
kept_note arc = (arc_value arc).note

-- the note of what was found
abbrev pub note_found : {Z : Type 0} → Option (Arc KeptScan Z) → Option ScanNote
note_found None = None
note_found (Some arc) = Some (kept_note arc)
