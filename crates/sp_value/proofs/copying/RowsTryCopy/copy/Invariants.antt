-- The copies so far are the rows before the index.
use Rattle.std.proofs.Common.{◌≡◌, take}
use Rattle.sp_value.proofs.copying.RowsTryCopy.copy.Given as goal

abbrev pub invariant-loop-row : goal.invariant-loop-row
invariant-loop-row l = l.copies ≡ take l.row-index l.row-items
