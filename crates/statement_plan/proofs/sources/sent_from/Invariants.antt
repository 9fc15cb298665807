use Rattle.std.proofs.Common.{◌≡◌, ◌++◌, map, drop}
use Rattle.statement_plan.specs.Sources.{sent_from}
use Rattle.statement_plan.proofs.sources.sent_from.Given as goal

abbrev pub invariant-loop-e : goal.invariant-loop-e
invariant-loop-e l =
    l.sent ++ sent_from l.keys l.of.sources.now l.of.layout.now l.of.source (map (λ e. e.now) (drop l.e-index l.conjuncts))
    ≡ sent_from l.keys l.of.sources.now l.of.layout.now l.of.source (map (λ e. e.now) l.conjuncts)
