use Rattle.std.proofs.Common.{◌≡◌, ◌++◌, drop}
use Rattle.row_algebra.proofs.joining.push_cells.Given as goal

abbrev pub invariant-loop-cell : goal.invariant-loop-cell
invariant-loop-cell l = l.into.items ++ drop l.cell-index l.cells ≡ l.fn.into.items ++ l.cells
