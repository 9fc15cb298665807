use Rattle.std.proofs.Common.{◌≡◌, drop}
use Rattle.row_algebra.specs.RowOrder.{row_order}
use Rattle.row_algebra.proofs.ordering.row_order.Given as goal

abbrev pub invariant-loop-key : goal.invariant-loop-key
invariant-loop-key l = row_order l.keys l.left l.right ≡ row_order (drop l.key-index l.keys) l.left l.right
