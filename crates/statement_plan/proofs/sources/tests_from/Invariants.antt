use Rattle.std.proofs.Common.{◌≡◌, ◌++◌, map, drop}
use Rattle.statement_plan.specs.Sources.{tests_from}
use Rattle.statement_plan.proofs.sources.tests_from.Given as goal

abbrev pub invariant-loop-e : goal.invariant-loop-e
invariant-loop-e l =
    l.tests ++ tests_from l.of.sources.now l.of.layout.now l.of.source (map (λ e. e.now) (drop l.e-index l.conjuncts))
    ≡ tests_from l.of.sources.now l.of.layout.now l.of.source (map (λ e. e.now) l.conjuncts)
