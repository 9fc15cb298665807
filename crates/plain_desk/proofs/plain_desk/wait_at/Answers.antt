use Rattle.std.proofs.Common.{◌∙◌, ap}
use Rattle.plain_desk.specs.Lost.{HasLost}
use Rattle.plain_desk.proofs.Losses.{keep_set}
use Rattle.plain_desk.proofs.Owning.{map_set}
use Rattle.plain_desk.proofs.plain_desk.wait_at.Goals as goal

pub returns : goal.returns
returns g c = record {
  own = map_set c.args.slots.now.items c.args.at c.index_mut-slot.result.now c.submit.new.self (λ s. g.C.Child.connection s.link.child) (c.submit.ensures.own ∙ ap (λ s. g.C.Child.connection s.link.child) c.index_mut-slot.ensures.value);
  gone = keep_set (HasLost g.W.World.tells g.W.World.book g.C.Child.faulted g.C.Child.gives) c.args.slots.now.items c.args.at c.index_mut-slot.result.now c.submit.new.self c.index_mut-slot.ensures.value c.submit.ensures.gone;
}
