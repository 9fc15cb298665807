use Rattle.std.proofs.Common.{◌≡◌, take, map}
use Rattle.source_scans.proofs.distinct.values_of.Given as goal

abbrev pub invariant-loop-scalar : goal.invariant-loop-scalar
invariant-loop-scalar l = l.values ≡ map (λ s. s.value) (take l.scalar-index l.found)
