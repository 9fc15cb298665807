use Rattle.std.proofs.Common.{◌≡◌, ◌++◌, map, drop}
use Rattle.statement_plan.specs.Sources.{conditions_from}
use Rattle.statement_plan.proofs.sources.conditions_from.Given as goal

abbrev pub invariant-loop-e : goal.invariant-loop-e
invariant-loop-e l =
    l.conditions ++ conditions_from l.of.sources.now l.of.layout.now l.of.source (map (λ e. e.now) (drop l.e-index l.conjuncts))
    ≡ conditions_from l.of.sources.now l.of.layout.now l.of.source (map (λ e. e.now) l.conjuncts)
