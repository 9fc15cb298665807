use Rattle.statement_run.proofs.Sources.{ok_ready}
use Rattle.statement_run.proofs.planning.planned.Goals as goal

pub returns-in-Ok-clause-ready : goal.returns-in-Ok-clause-ready
returns-in-Ok-clause-ready g c =
    ok_ready g.W.World.tells g.W.World.book c.args.catalog.now c.args.statement.now c.requires.told c.requires.read c.requires.plain c.requires.done c.in-Ok.bound c.plan_of.result
    c.in-Ok.ensures c.plan_of.ensures.plan c.plan_of.ensures.planned
