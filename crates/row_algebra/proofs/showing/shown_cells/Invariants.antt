use Rattle.std.proofs.Common.{◌≡◌, map, take}
use Rattle.row_algebra.specs.RowTruth.{cell_at}
use Rattle.row_algebra.proofs.showing.shown_cells.Given as goal

abbrev pub invariant-loop-column : goal.invariant-loop-column
invariant-loop-column l = l.cells.items ≡ map (cell_at l.row) (take l.column-index l.columns)
