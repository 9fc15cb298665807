use Rattle.std.proofs.Common.{◌≡◌, ◌++◌, map, drop}
use Rattle.statement_plan.specs.Sources.{listed_from}
use Rattle.statement_plan.proofs.sources.listed_from.Given as goal

abbrev pub invariant-loop-e : goal.invariant-loop-e
invariant-loop-e l =
    l.names ++ listed_from l.sources l.source (map (λ e. e.now) (drop l.e-index l.conjuncts)) ≡ listed_from l.sources l.source (map (λ e. e.now) l.conjuncts)
