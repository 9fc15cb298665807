use Rattle.std.proofs.Common.{◌≡◌, max, drop}
use Rattle.statement_plan.specs.Placed.{last_of}
use Rattle.statement_plan.proofs.placing.last_of.Given as goal

abbrev pub invariant-loop-column : goal.invariant-loop-column
invariant-loop-column l = max l.last (last_of (drop l.column-index l.columns)) ≡ last_of l.columns
