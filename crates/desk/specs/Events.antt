-- What passes between a statement and its desk.
use Rattle.std.specs.Prelude.{ℕ, Option}
use Rattle.sp_model.specs.declared.call.Asked.{Asked}
use Rattle.sp_model.specs.declared.scan.ScanNote.{ScanNote}
use Rattle.sp_model.specs.declared.scan.ScanRequest.{ScanRequest}
use Rattle.sp_model.specs.declared.scan.Seat.{Seat}

-- one call of a desk, with what it answered
pub data Event : Type 0 where
  Reads : (tick : ℕ) → Event
  Counts : (scan : ℕ) → Event
  Submits : (asked : Asked) (seat : Seat) (due : ℕ) → Event
  Refuses : Event
  Takes_piece : (asked : Asked) (seat : Seat) → Event
  Takes_gone : (connection losses : ℕ) → Event
  Takes_none : Event
  Drives : Event
  Finds : (request : ScanRequest) (found : Option ScanNote) → Event
  Keeps : (note : ScanNote) → Event
  Clears : Event
  Ends : Event
