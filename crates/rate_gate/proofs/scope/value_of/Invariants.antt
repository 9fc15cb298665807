use Rattle.std.proofs.Common.{◌≡◌, drop}
use Rattle.rate_gate.specs.Limits.{value_of}
use Rattle.rate_gate.proofs.scope.value_of.Given as goal

-- the first of that name among those left is the first
abbrev pub invariant-loop-pair : goal.invariant-loop-pair
invariant-loop-pair l = value_of l.name (drop l.pair-index l.pairs) ≡ value_of l.name l.pairs
