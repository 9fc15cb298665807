use Rattle.std.proofs.Common.{refl, ◌∙◌}
use Rattle.plain_desk.specs.Lost.{HasLost}
use Rattle.plain_desk.proofs.Losses.{still_gone}
use Rattle.plain_desk.proofs.plain_desk.PlainDeskDesk.end_statement.Goals as goal

pub invariant_of-self : goal.invariant_of-self
invariant_of-self g c = record {
  own = c.forget_all.ensures.own ∙ c.args.self.now.own;
  lost = still_gone (HasLost g.W.World.tells g.W.World.book g.C.Child.faulted g.C.Child.gives) c.args.self.now.slots.items c.forget_all.new.slots.items c.args.self.now.gone.items c.args.self.now.gone.items c.args.self.now.lost c.forget_all.ensures.gone refl;
}
