use Rattle.rate_gate.specs.Instances.{First, Kept, Ready}
use Rattle.rate_gate.proofs.limits.prepare_all.Given as goal

abbrev pub invariant-loop-k : goal.invariant-loop-k
invariant-loop-k l = First (λ s t. Kept s t × Ready l.call t) l.fn.limits l.limits l.k
