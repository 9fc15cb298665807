use Rattle.std.proofs.Common.{◌≡◌, ◌++◌, map, drop}
use Rattle.row_algebra.proofs.joining.push_rows.Given as goal

abbrev pub invariant-loop-row : goal.invariant-loop-row
invariant-loop-row l = l.into ++ map (λ row. l.left ++ row) (drop l.row-index l.right) ≡ l.fn.into ++ map (λ row. l.left ++ row) l.right
