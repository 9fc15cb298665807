use Rattle.std.proofs.Common.{◌≡◌, take}
use Rattle.sp_value.proofs.cell.+copy.Given as goal

abbrev pub invariant-copy_cells-loop-cell : goal.invariant-copy_cells-loop-cell
invariant-copy_cells-loop-cell l = l.copies.items ≡ take l.cell-index l.cells
