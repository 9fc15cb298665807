use Rattle.std.proofs.Common.{◌≡◌, [], take}
use Rattle.std.specs.List.{AllByRecursion}
use Rattle.rate_gate.specs.Instances.{Fits, limiters_of}
use Rattle.rate_gate.proofs.limits.limits_of.Given as goal

abbrev pub invariant-loop-limiter : goal.invariant-loop-limiter
invariant-loop-limiter l = record {
  limiters : limiters_of l.limits.items ≡ take l.limiter-index l.limiters;
  fits : AllByRecursion (Fits []) l.limits.items;
}
