use Rattle.std.proofs.Common.{◌∙◌, refl, ap}
use Rattle.plain_desk.specs.Lost.{HasLost}
use Rattle.plain_desk.proofs.Losses.{keep_set, gone_set}
use Rattle.plain_desk.proofs.Owning.{map_set}
use Rattle.plain_desk.proofs.running.step_at.Goals as goal

pub returns-in-Told-clause-own : goal.returns-in-Told-clause-own
returns-in-Told-clause-own g c =
    map_set c.args.slots.now.items c.args.at c.index_mut-slot.result.now c.step.new.self (λ s. g.C.Child.connection s.link.child) (c.step.ensures.own ∙ ap (λ s. g.C.Child.connection s.link.child) c.index_mut-slot.ensures.value)

pub returns-in-Told-clause-gone : goal.returns-in-Told-clause-gone
returns-in-Told-clause-gone g c =
    keep_set (HasLost g.W.World.tells g.W.World.book g.C.Child.faulted g.C.Child.gives) c.args.slots.now.items c.args.at c.index_mut-slot.result.now c.step.new.self c.index_mut-slot.ensures.value c.step.ensures.gone

pub returns-in-Lost-clause-own : goal.returns-in-Lost-clause-own
returns-in-Lost-clause-own g c =
    map_set c.args.slots.now.items c.args.at c.index_mut-slot.result.now c.step.new.self (λ s. g.C.Child.connection s.link.child) (c.step.ensures.own ∙ ap (λ s. g.C.Child.connection s.link.child) c.index_mut-slot.ensures.value)

pub returns-in-Lost-clause-gone : goal.returns-in-Lost-clause-gone
returns-in-Lost-clause-gone g c =
    keep_set (HasLost g.W.World.tells g.W.World.book g.C.Child.faulted g.C.Child.gives) c.args.slots.now.items c.args.at c.index_mut-slot.result.now c.step.new.self c.index_mut-slot.ensures.value c.step.ensures.gone

pub returns-in-Memory-clause-own : goal.returns-in-Memory-clause-own
returns-in-Memory-clause-own g c =
    map_set c.args.slots.now.items c.args.at c.index_mut-slot.result.now c.step.new.self (λ s. g.C.Child.connection s.link.child) (c.step.ensures.own ∙ ap (λ s. g.C.Child.connection s.link.child) c.index_mut-slot.ensures.value)

pub returns-in-Memory-clause-gone : goal.returns-in-Memory-clause-gone
returns-in-Memory-clause-gone g c =
    keep_set (HasLost g.W.World.tells g.W.World.book g.C.Child.faulted g.C.Child.gives) c.args.slots.now.items c.args.at c.index_mut-slot.result.now c.step.new.self c.index_mut-slot.ensures.value c.step.ensures.gone

pub returns-in-Idle-clause-own : goal.returns-in-Idle-clause-own
returns-in-Idle-clause-own g c =
    map_set c.args.slots.now.items c.args.at c.index_mut-slot.result.now c.step.new.self (λ s. g.C.Child.connection s.link.child) (c.step.ensures.own ∙ ap (λ s. g.C.Child.connection s.link.child) c.index_mut-slot.ensures.value)

pub returns-in-Idle-clause-gone : goal.returns-in-Idle-clause-gone
returns-in-Idle-clause-gone g c =
    keep_set (HasLost g.W.World.tells g.W.World.book g.C.Child.faulted g.C.Child.gives) c.args.slots.now.items c.args.at c.index_mut-slot.result.now c.step.new.self c.index_mut-slot.ensures.value c.step.ensures.gone

pub returns-in-Lost-clause-lost : goal.returns-in-Lost-clause-lost
returns-in-Lost-clause-lost g c = gone_set (HasLost g.W.World.tells g.W.World.book g.C.Child.faulted g.C.Child.gives) c.args.slots.now.items c.args.at c.step.new.self c.requires.within (c.in-Lost.ensures.lost refl)
