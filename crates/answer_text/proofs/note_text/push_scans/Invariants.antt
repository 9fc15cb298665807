-- The text so far, followed by the lines of the scans that are left, is the whole.
use Rattle.std.proofs.Common.{◌≡◌, ◌++◌, drop}
use Rattle.answer_text.specs.Notes.{scan_lines}
use Rattle.answer_text.proofs.note_text.push_scans.Given as goal

abbrev pub invariant-loop-note : goal.invariant-loop-note
invariant-loop-note l = record {
  text : l.text.items ++ scan_lines l.block l.session l.scan (drop l.note-index l.notes) ≡ l.initial.text.items ++ scan_lines l.block l.session 0 l.notes;
  counted : l.scan ≡ l.note-index;
}
