-- Plans as statements.
use Rattle.std.specs.Prelude.{map}
use Rattle.source_run.specs.Sources.{source_of}
use Rattle.statement_plan.specs.Plans.{finished}
use Rattle.statement_plan.specs.declared.plan.Plan.{Plan}
use Rattle.statement_words.specs.Course.{StatementPlan}

-- a plan as a statement: it shows the last source's rows in order, up to the limit, with the cells that are shown
abbrev pub statement_of : Plan → StatementPlan
statement_of plan = record { sources = map source_of plan.sources; shown = finished plan.finishing }
