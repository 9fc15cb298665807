-- The conjuncts so far, and those of the sources that are left.
use Rattle.std.proofs.Common.{◌≡◌, ◌++◌, map, drop}
use Rattle.std.specs.List.{flat_map}
use Rattle.statement_plan.specs.Conjuncts.{conjuncts_in}
use Rattle.statement_plan.proofs.conjuncts.push_sources.Given as goal

abbrev pub invariant-loop-source : goal.invariant-loop-source
invariant-loop-source l =
    map (λ e. e.now) l.found.items ++ flat_map (λ s. conjuncts_in s.on) (drop l.source-index l.sources)
    ≡ map (λ e. e.now) l.initial.found.items ++ flat_map (λ s. conjuncts_in s.on) l.sources
