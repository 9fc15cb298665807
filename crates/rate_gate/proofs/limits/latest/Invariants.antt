use Rattle.std.proofs.Common.{take}
use Rattle.std.specs.List.{AllByRecursion}
use Rattle.rate_bucket.specs.Windows.{IsFirstFrom}
use Rattle.rate_gate.specs.Instances.{TokenNow}
use Rattle.rate_gate.proofs.limits.latest.Given as goal

abbrev pub invariant-loop-limited : goal.invariant-loop-limited
invariant-loop-limited l = IsFirstFrom l.tick (λ u. AllByRecursion (TokenNow u) (take l.limited-index l.limits)) l.next
