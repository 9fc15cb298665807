use Rattle.std.proofs.Common.{None, sym}
use Rattle.hydrate_graph.proofs.Slots.{get_some, get_none, within_is}
use Rattle.hydrate_graph.proofs.plan.RowPlan.slot.Goals as goal

pub returns-in-Some-clause-value : goal.returns-in-Some-clause-value
returns-in-Some-clause-value c = rw (← c.self.view_is) (sym (get_some c.self.inside.slots c.args.function c.in-Some.slot.now None c.in-Some.ensures.value))

pub returns-in-Some-clause-within : goal.returns-in-Some-clause-within
returns-in-Some-clause-within c =
    rw (← c.self.view_is) (within_is c.self.inside.slots c.self.inside.room c.args.function c.in-Some.slot.now c.self.invariant.within (get_some c.self.inside.slots c.args.function c.in-Some.slot.now None c.in-Some.ensures.value))

pub returns-in-None-clause-value : goal.returns-in-None-clause-value
returns-in-None-clause-value c = rw (← c.self.view_is) (sym (get_none c.self.inside.slots c.args.function None c.in-None.ensures.value))
