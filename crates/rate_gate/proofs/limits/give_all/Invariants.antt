use Rattle.rate_gate.specs.Instances.{First, Returned}
use Rattle.rate_gate.proofs.limits.give_all.Given as goal

abbrev pub invariant-loop-k : goal.invariant-loop-k
invariant-loop-k l = First (Returned l.tags) l.fn.limits l.limits l.k
