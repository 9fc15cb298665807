use Rattle.std.proofs.Common.{◌≡◌, ◌≤◌, length}
use Rattle.sp_value.specs.Patterns.{fits, some_end}
use Rattle.sp_value.proofs.pattern.some_end_fits.Given as goal

abbrev pub invariant-loop-left : goal.invariant-loop-left
invariant-loop-left l = (some_end (fits l.pattern) l.text ≡ some_end (fits l.left) l.end) × (length l.left ≤ length l.pattern)

abbrev pub decreases-loop-left : goal.decreases-loop-left
decreases-loop-left l = length l.left
