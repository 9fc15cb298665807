use Rattle.std.proofs.Common.{length}
use Rattle.std.specs.List.{AllByRecursion}
use Rattle.rate_gate.specs.Limits.{IsLimiter}
use Rattle.worked_limits.proofs.given.are_limiters.Given as goal

abbrev pub invariant-more : goal.invariant-more
invariant-more l = AllByRecursion IsLimiter l.rest → AllByRecursion IsLimiter l.limiters

abbrev pub decreases-more : goal.decreases-more
decreases-more l = length l.rest
