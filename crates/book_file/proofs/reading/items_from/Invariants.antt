-- What was read so far are items, no more than were looked at.
use Rattle.std.proofs.Common.{◌≤◌, length}
use Rattle.book_file.specs.Sayable.{AreItems}
use Rattle.book_file.proofs.reading.items_from.Given as goal

abbrev pub invariant-loop-value : goal.invariant-loop-value
invariant-loop-value l = record {
  items : AreItems l.items;
  fewer : length l.items ≤ l.value-index;
}
