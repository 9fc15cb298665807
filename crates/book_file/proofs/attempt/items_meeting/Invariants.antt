-- What was kept so far are items, no more than were looked at.
use Rattle.std.proofs.Common.{◌≤◌, length}
use Rattle.book_file.specs.Sayable.{AreItems}
use Rattle.book_file.proofs.attempt.items_meeting.Given as goal

abbrev pub invariant-loop-item : goal.invariant-loop-item
invariant-loop-item l = record {
  items : AreItems l.kept;
  fewer : length l.kept ≤ l.item-index;
}
