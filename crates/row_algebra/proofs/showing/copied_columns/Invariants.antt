use Rattle.std.proofs.Common.{◌≡◌, map, take}
use Rattle.row_algebra.specs.RowTruth.{cell_at}
use Rattle.row_algebra.proofs.showing.copied_columns.Given as goal

abbrev pub invariant-loop-row : goal.invariant-loop-row
invariant-loop-row l = l.shown ≡ map (λ row. map (cell_at row) l.columns) (take l.row-index l.rows)
