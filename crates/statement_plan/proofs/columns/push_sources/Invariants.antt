use Rattle.std.proofs.Common.{◌≡◌, ◌++◌, drop}
use Rattle.std.specs.List.{flat_map}
use Rattle.statement_plan.specs.Columns.{columns_in}
use Rattle.statement_plan.proofs.columns.push_sources.Given as goal

abbrev pub invariant-loop-source : goal.invariant-loop-source
invariant-loop-source l = l.columns ++ flat_map (λ s. columns_in s.on) (drop l.source-index l.sources) ≡ l.initial.columns ++ flat_map (λ s. columns_in s.on) l.sources
