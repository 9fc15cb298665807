use Rattle.std.proofs.Common.{refl, sym, subst, rules}
use Rattle.plain_desk.specs.Slots.{Keeps}
use Rattle.plain_desk.proofs.Hearing.{received_lawfully}
use Rattle.plain_desk.proofs.Losses.{lost_by_receiving}
use Rattle.plain_desk.proofs.Slots.{arrived}
use Rattle.plain_desk.proofs.stepping.receive_one.Goals as goal

pub return_grant-requires-clause-grant : goal.return_grant-requires-clause-grant
return_grant-requires-clause-grant g c =
    let p = c.args.parts.now in
    (arrived (g.C.Child.last c.receive.new.self.child) p.link.flights.items c.receive.new.self.flights.items p.gate.journal p.tick c.in-Ok.arrived c.requires.slot.keeps c.in-Ok.ensures.arrival).0

pub lose-requires-clause-lost : goal.lose-requires-clause-lost
lose-requires-clause-lost g c =
    let told = c.receive.ensures in
    lost_by_receiving g.W.World.tells g.W.World.book g.C.Child.faulted g.C.Child.gives c.receive.new.self.child _ _ c.receive.new.self.kept c.receive.result _ _ c.in-Err-Lost.is c.in-Err-Lost.field-0-is
    told.counted told.looked told.kept told.honest

pub returns-in-Ok-clause-slot : goal.returns-in-Ok-clause-slot
returns-in-Ok-clause-slot g c =
    let p = c.args.parts.now in
    record {
      keeps = subst (λ j. Keeps c.receive.new.self.flights.items j p.tick) (sym c.return_grant.ensures)
          (arrived (g.C.Child.last c.receive.new.self.child) p.link.flights.items c.receive.new.self.flights.items p.gate.journal p.tick c.in-Ok.arrived c.requires.slot.keeps c.in-Ok.ensures.arrival).1;
      stands = search rules;
      gone = search rules;
    }

pub lose-requires-clause-lawful : goal.lose-requires-clause-lawful
lose-requires-clause-lawful g c = received_lawfully g.W.World.tells g.W.World.book g.C.Child.connection g.C.Child.log c.args.parts.now _ c.receive.ensures.own.0 c.receive.ensures.log refl c.requires.lawful

pub returns-in-Ok-clause-lawful : goal.returns-in-Ok-clause-lawful
returns-in-Ok-clause-lawful g c = received_lawfully g.W.World.tells g.W.World.book g.C.Child.connection g.C.Child.log c.args.parts.now _ c.receive.ensures.own.0 c.receive.ensures.log refl c.requires.lawful

pub returns-in-Err-Memory-clause-lawful : goal.returns-in-Err-Memory-clause-lawful
returns-in-Err-Memory-clause-lawful g c = received_lawfully g.W.World.tells g.W.World.book g.C.Child.connection g.C.Child.log c.args.parts.now _ c.receive.ensures.own.0 c.receive.ensures.log refl c.requires.lawful
