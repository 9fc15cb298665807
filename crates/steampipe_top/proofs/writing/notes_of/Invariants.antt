-- The text so far, followed by the notes of the blocks that are left, is the whole.
use Rattle.std.proofs.Common.{◌≡◌, ◌++◌, drop}
use Rattle.steampipe_top.specs.Shown.{notes_from}
use Rattle.steampipe_top.proofs.writing.notes_of.Given as goal

abbrev pub invariant-loop-shown : goal.invariant-loop-shown
invariant-loop-shown l = record {
  text : l.text.items ++ notes_from l.number (drop l.shown-index l.blocks) ≡ notes_from 0 l.blocks;
  counted : l.number ≡ l.shown-index;
}
