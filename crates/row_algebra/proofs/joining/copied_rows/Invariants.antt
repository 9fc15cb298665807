-- The rows so far, and what the rows and picks that are left give.
use Rattle.std.proofs.Common.{◌≡◌, ◌++◌, drop}
use Rattle.row_algebra.specs.RowJoins.{joined}
use Rattle.row_algebra.proofs.joining.copied_rows.Given as goal

abbrev pub invariant-loop-row : goal.invariant-loop-row
invariant-loop-row l = l.rows ++ joined (drop l.row-index l.left) l.rest l.right ≡ joined l.left l.picks l.right
