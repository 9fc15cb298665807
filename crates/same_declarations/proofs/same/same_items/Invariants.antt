-- The items before the index are the same.
use Rattle.std.proofs.Common.{◌≡◌, take}
use Rattle.same_declarations.proofs.same.same_items.Given as goal

abbrev pub invariant-loop-index : goal.invariant-loop-index
invariant-loop-index g l = take l.index l.left ≡ take l.index l.right
