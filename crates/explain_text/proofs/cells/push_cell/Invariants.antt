-- The cell is that of the sources that are left, at the place among these.
use Rattle.std.proofs.Common.{◌≡◌, length}
use Rattle.explain_text.specs.Words.{cell_text}
use Rattle.explain_text.proofs.cells.push_cell.Given as goal

abbrev pub invariant-more : goal.invariant-more
invariant-more l = record {
  cell : cell_text l.rest l.others l.left ≡ cell_text l.sources l.plans l.place;
  text : l.text.items ≡ l.initial.text.items;
}

abbrev pub decreases-more : goal.decreases-more
decreases-more l = length l.rest
