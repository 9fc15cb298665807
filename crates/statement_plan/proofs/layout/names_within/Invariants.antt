use Rattle.std.proofs.Common.{◌≡◌, ◌++◌, drop}
use Rattle.statement_plan.specs.Columns.{names_within}
use Rattle.statement_plan.proofs.layout.names_within.Given as goal

abbrev pub invariant-loop-column : goal.invariant-loop-column
invariant-loop-column l = l.names ++ names_within l.sources l.source (drop l.column-index l.columns) ≡ names_within l.sources l.source l.columns
