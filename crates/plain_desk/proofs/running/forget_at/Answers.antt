use Rattle.std.proofs.Common.{◌∙◌, ap}
use Rattle.plain_desk.specs.Lost.{HasLost}
use Rattle.plain_desk.proofs.Losses.{keep_set}
use Rattle.plain_desk.proofs.Owning.{map_set}
use Rattle.plain_desk.proofs.running.forget_at.Goals as goal

pub returns-clause-own : goal.returns-clause-own
returns-clause-own g c =
    map_set c.args.slots.now.items c.args.at c.index_mut-slot.result.now c.forget.new.self (λ s. g.C.Child.connection s.link.child) (c.forget.ensures.own ∙ ap (λ s. g.C.Child.connection s.link.child) c.index_mut-slot.ensures.value)

pub returns-clause-gone : goal.returns-clause-gone
returns-clause-gone g c =
    keep_set (HasLost g.W.World.tells g.W.World.book g.C.Child.faulted g.C.Child.gives) c.args.slots.now.items c.args.at c.index_mut-slot.result.now c.forget.new.self c.index_mut-slot.ensures.value c.forget.ensures.gone
