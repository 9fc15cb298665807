use Rattle.std.proofs.Common.{◌≡◌, map, drop}
use Rattle.statement_plan.specs.Sources.{values_under}
use Rattle.statement_plan.proofs.sources.values_under.Given as goal

abbrev pub invariant-loop-e : goal.invariant-loop-e
invariant-loop-e l =
    values_under l.sources l.source l.column (map (λ e. e.now) (drop l.e-index l.conjuncts)) ≡ values_under l.sources l.source l.column (map (λ e. e.now) l.conjuncts)
