use Rattle.std.proofs.Common.{◌∙◌}
use Rattle.hydrate_graph.proofs.Slots.{settled_none, settled_out, settled_in}
use Rattle.hydrate_graph.proofs.plan.RowPlan.settled.Goals as goal

pub returns-in_default : goal.returns-in_default
returns-in_default c = settled_none c.args.self.now.slots c.args.outcomes.now c.args.function c.in_default.ensures.value

pub returns-in_default-at : goal.returns-in_default-at
returns-in_default-at c = settled_out c.args.self.now.slots c.args.outcomes.now c.args.function c.in-Some.slot c.in-Some.ensures.value c.in_default-at.ensures

pub returns : goal.returns
returns c = c.as_ref.ensures.value ∙ settled_in c.args.self.now.slots c.args.outcomes.now c.args.function c.in-Some.slot c.in-Some-at.outcome.now c.in-Some.ensures.value c.in-Some-at.ensures
