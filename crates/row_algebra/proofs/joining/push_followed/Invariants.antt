use Rattle.std.proofs.Common.{◌≡◌, ◌++◌, drop}
use Rattle.row_algebra.specs.RowJoins.{followed}
use Rattle.row_algebra.proofs.joining.push_followed.Given as goal

abbrev pub invariant-loop-place : goal.invariant-loop-place
invariant-loop-place l = l.into ++ followed l.right l.left (drop l.place-index l.places) ≡ l.fn.into ++ followed l.right l.left l.places
