-- The copies so far are the items before the index.
use Rattle.std.proofs.Common.{◌≡◌, take}
use Rattle.sp_value.proofs.copying.ItemsTryCopy.copy.Given as goal

abbrev pub invariant-loop-item : goal.invariant-loop-item
invariant-loop-item g l = l.copies.items ≡ take l.item-index l.item-items
