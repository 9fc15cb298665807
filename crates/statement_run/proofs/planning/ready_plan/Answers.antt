use Rattle.statement_run.proofs.Early.{ready_after, unplanned_after}
use Rattle.statement_run.proofs.planning.ready_plan.Goals as goal

pub returns-in-Ok-clause-ready : goal.returns-in-Ok-clause-ready
returns-in-Ok-clause-ready g c =
    ready_after g.W.World.tells g.W.World.book (g.D.Desk.state c.declare.new.desk) c.args.catalog.now.settings c.args.statement.now c.declare.new.catalog c.declare.ensures.settings
    c.in-Ok.ensures.needed c.declare.ensures.told c.in-Ok.ensures.done c.planned.result c.planned.ensures.plan c.planned.ensures.ready

pub returns-in-Ok-clause-early : goal.returns-in-Ok-clause-early
returns-in-Ok-clause-early g c =
    unplanned_after g.W.World.tells g.W.World.book (g.D.Desk.state c.declare.new.desk) c.args.catalog.now.settings c.args.statement.now c.declare.new.catalog c.declare.ensures.settings
    c.in-Ok.ensures.needed c.declare.ensures.told c.in-Ok.ensures.done c.planned.result c.planned.ensures.none
