use Rattle.std.proofs.Common.{◌∷◌, ◌++◌, [], refl, ap, ◌∙◌}
use Rattle.plain_desk.specs.Lost.{HasLost}
use Rattle.plain_desk.proofs.Losses.{still_gone, more_gone}
use Rattle.plain_desk.proofs.Stills.{still_same, still_more}
use Rattle.plain_desk.proofs.plain_desk.PlainDeskDesk.drive.Goals as goal

pub returns-in-Told-clause-state : goal.returns-in-Told-clause-state
returns-in-Told-clause-state g c = still_same _ _ refl c.present-tick.ensures.tick refl c.make_room.ensures.gone

pub returns-in-Ok-try_from-clause-state : goal.returns-in-Ok-try_from-clause-state
returns-in-Ok-try_from-clause-state g c =
    still_more _ _ (c.in-Ok-try_from.number, 1) refl c.present-tick.ensures.tick refl (c.push_reserved.ensures.items ∙ ap (λ xs. xs ++ (c.in-Ok-try_from.number, 1) ∷ []) c.make_room.ensures.gone)

pub returns-in-Idle-Some-clause-state : goal.returns-in-Idle-Some-clause-state
returns-in-Idle-Some-clause-state g c = still_same _ _ refl (c.wait.ensures ∙ c.present-tick.ensures.tick) refl c.make_room.ensures.gone

pub returns-in-Idle-None-clause-state : goal.returns-in-Idle-None-clause-state
returns-in-Idle-None-clause-state g c = still_same _ _ refl c.present-tick.ensures.tick refl c.make_room.ensures.gone

pub returns-in-Memory-clause-state : goal.returns-in-Memory-clause-state
returns-in-Memory-clause-state g c = still_same _ _ refl c.present-tick.ensures.tick refl c.make_room.ensures.gone

pub invariant_of-self : goal.invariant_of-self
invariant_of-self g c = record {
  own = c.args.self.now.own;
  lost = still_gone (HasLost g.W.World.tells g.W.World.book g.C.Child.faulted g.C.Child.gives) c.args.self.now.slots.items c.args.self.now.slots.items c.args.self.now.gone.items c.make_room.new.gone.items c.args.self.now.lost (λ place h. h) c.make_room.ensures.gone;
}

pub invariant_of-self-in-Told : goal.invariant_of-self-in-Told
invariant_of-self-in-Told g c = record {
  own = c.run_slots.ensures.own ∙ c.args.self.now.own;
  lost = still_gone (HasLost g.W.World.tells g.W.World.book g.C.Child.faulted g.C.Child.gives) c.args.self.now.slots.items c.run_slots.new.slots.items c.args.self.now.gone.items c.make_room.new.gone.items c.args.self.now.lost c.run_slots.ensures.gone c.make_room.ensures.gone;
}

pub invariant_of-self-in_default-try_from : goal.invariant_of-self-in_default-try_from
invariant_of-self-in_default-try_from g c = record {
  own = c.run_slots.ensures.own ∙ c.args.self.now.own;
  lost = still_gone (HasLost g.W.World.tells g.W.World.book g.C.Child.faulted g.C.Child.gives) c.args.self.now.slots.items c.run_slots.new.slots.items c.args.self.now.gone.items c.make_room.new.gone.items c.args.self.now.lost c.run_slots.ensures.gone c.make_room.ensures.gone;
}

pub invariant_of-self-in-Idle-Some : goal.invariant_of-self-in-Idle-Some
invariant_of-self-in-Idle-Some g c = record {
  own = c.run_slots.ensures.own ∙ c.args.self.now.own;
  lost = still_gone (HasLost g.W.World.tells g.W.World.book g.C.Child.faulted g.C.Child.gives) c.args.self.now.slots.items c.run_slots.new.slots.items c.args.self.now.gone.items c.make_room.new.gone.items c.args.self.now.lost c.run_slots.ensures.gone c.make_room.ensures.gone;
}

pub invariant_of-self-in-Idle-None : goal.invariant_of-self-in-Idle-None
invariant_of-self-in-Idle-None g c = record {
  own = c.run_slots.ensures.own ∙ c.args.self.now.own;
  lost = still_gone (HasLost g.W.World.tells g.W.World.book g.C.Child.faulted g.C.Child.gives) c.args.self.now.slots.items c.run_slots.new.slots.items c.args.self.now.gone.items c.make_room.new.gone.items c.args.self.now.lost c.run_slots.ensures.gone c.make_room.ensures.gone;
}

pub invariant_of-self-in-Memory : goal.invariant_of-self-in-Memory
invariant_of-self-in-Memory g c = record {
  own = c.run_slots.ensures.own ∙ c.args.self.now.own;
  lost = still_gone (HasLost g.W.World.tells g.W.World.book g.C.Child.faulted g.C.Child.gives) c.args.self.now.slots.items c.run_slots.new.slots.items c.args.self.now.gone.items c.make_room.new.gone.items c.args.self.now.lost c.run_slots.ensures.gone c.make_room.ensures.gone;
}

pub invariant_of-self-in-Lost : goal.invariant_of-self-in-Lost
invariant_of-self-in-Lost g c = record {
  own = c.run_slots.ensures.own ∙ c.args.self.now.own;
  lost = more_gone (HasLost g.W.World.tells g.W.World.book g.C.Child.faulted g.C.Child.gives) c.args.self.now.slots.items c.run_slots.new.slots.items c.args.self.now.gone.items c.push_reserved.new.self.items c.in-Lost.place c.in-Ok-try_from.number c.args.self.now.lost c.run_slots.ensures.gone
      c.in-Lost.ensures.lost c.in-Ok-try_from.ensures.1 (c.push_reserved.ensures.items ∙ ap (λ xs. xs ++ (c.in-Ok-try_from.number, 1) ∷ []) c.make_room.ensures.gone);
}
