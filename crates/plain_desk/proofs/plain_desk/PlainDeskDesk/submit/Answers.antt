use Rattle.std.proofs.Common.{Some, slice_get, refl, sym, ap, ◌∙◌}
use Rattle.plain_desk.specs.Lost.{HasLost}
use Rattle.plain_desk.specs.Slots.{plain_names}
use Rattle.plain_desk.proofs.Hearing.{lawful_may, may_at_place}
use Rattle.plain_desk.proofs.Losses.{still_gone}
use Rattle.plain_desk.proofs.plain_desk.PlainDeskDesk.submit.Goals as goal

pub invariant_of-self-2 : goal.invariant_of-self-2
invariant_of-self-2 g c = record {
  own = c.submit_at.ensures.own ∙ c.args.self.now.own;
  lost = still_gone (HasLost g.W.World.tells g.W.World.book g.C.Child.faulted g.C.Child.gives) c.args.self.now.slots.items c.submit_at.new.slots.items c.args.self.now.gone.items c.args.self.now.gone.items c.args.self.now.lost c.submit_at.ensures.gone refl;
}

pub submit_at-requires-clause-may : goal.submit_at-requires-clause-may
submit_at-requires-clause-may g c =
    let d = c.args.self.now in
    let place = c.in-Some.place in
    may_at_place g.W.World.tells g.W.World.book g.C.Child.connection d.slots.items d.settings.connections place c.args.job.tags.connection c.args.job d.own
    (ap (λ cs. slice_get (plain_names cs) place) (sym c.as_slice.ensures) ∙ c.in-Some.ensures ∙ ap Some c.connection.ensures)
    (lawful_may g.W.World.tells g.W.World.book d.settings.connections c.args.job c.requires.lawful)
