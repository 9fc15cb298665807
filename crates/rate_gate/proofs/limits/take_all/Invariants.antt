use Rattle.rate_gate.specs.Instances.{First, Changed, Took}
use Rattle.rate_gate.proofs.limits.take_all.Given as goal

abbrev pub invariant-loop-k : goal.invariant-loop-k
invariant-loop-k l = First (Changed (Took l.tick)) l.fn.limits l.limits l.k
