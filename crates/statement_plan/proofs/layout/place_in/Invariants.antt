use Rattle.std.proofs.Common.{◌≡◌, ◌+◌, drop}
use Rattle.statement_plan.specs.Columns.{place_in}
use Rattle.statement_plan.proofs.layout.place_in.Given as goal

abbrev pub invariant-loop-columns : goal.invariant-loop-columns
invariant-loop-columns l = place_in l.layout l.source l.name ≡ l.before + place_in (drop l.columns-index l.layout) l.left l.name
