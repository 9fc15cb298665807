use Rattle.std.proofs.Common.{◌≡◌, take}
use Rattle.sp_value.proofs.same.+same.Given as goal

abbrev pub invariant-same_cells-loop-index : goal.invariant-same_cells-loop-index
invariant-same_cells-loop-index l = take l.index l.left ≡ take l.index l.right
