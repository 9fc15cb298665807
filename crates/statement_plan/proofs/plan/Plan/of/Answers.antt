use Rattle.statement_plan.proofs.PlansHold.{plans_hold}
use Rattle.statement_plan.proofs.plan.Plan.of.Goals as goal

pub returns-clause-planned : goal.returns-clause-planned
returns-clause-planned c = plans_hold c.args.bound.now c.in_ok-sources.sources c.in_ok-sources.ensures.ok
