use Rattle.std.proofs.Common.{rules}
use Rattle.plain_desk.proofs.Hearing.{sent_lawfully}
use Rattle.plain_desk.proofs.Losses.{lost_by_failing}
use Rattle.plain_desk.proofs.Slots.{sent, due_at, granted}
use Rattle.plain_desk.proofs.sending.send_at.Goals as goal

pub lose-requires-clause-keeps : goal.lose-requires-clause-keeps
lose-requires-clause-keeps g c =
    let p = c.args.parts.now in
    let permit = c.in-Ok.permit in
    let call = c.remove-call.result in
    sent p.gate c.ask-asked.new.self _ p.tick (g.C.Child.sends c.send.new.self.child) permit call p.link.flights.items c.send.new.self.flights.items c.journal-journal.ensures.law.ordered c.requires.slot.keeps
    (granted p.gate c.ask-asked.new.self _ p.tick c.ask-asked.result permit c.ask-asked.ensures c.in-Ok.is)
    (due_at p.tick p.waiting.items c.args.at call c.requires.within c.remove-call.ensures.value c.requires.due) c.send.ensures.flights

pub lose-requires-clause-lost : goal.lose-requires-clause-lost
lose-requires-clause-lost g c =
    lost_by_failing g.W.World.tells g.W.World.book g.C.Child.faulted g.C.Child.gives c.send.new.self.child _ _ c.in-Err.loss c.in-Err.ensures.lost

pub returns-in-Ok-send-clause-slot : goal.returns-in-Ok-send-clause-slot
returns-in-Ok-send-clause-slot g c =
    let p = c.args.parts.now in
    let permit = c.in-Ok.permit in
    let call = c.remove-call.result in
    record {
      keeps = sent p.gate c.ask-asked.new.self _ p.tick (g.C.Child.sends c.send.new.self.child) permit call p.link.flights.items c.send.new.self.flights.items c.journal-journal.ensures.law.ordered c.requires.slot.keeps
          (granted p.gate c.ask-asked.new.self _ p.tick c.ask-asked.result permit c.ask-asked.ensures c.in-Ok.is)
          (due_at p.tick p.waiting.items c.args.at call c.requires.within c.remove-call.ensures.value c.requires.due) c.send.ensures.flights;
      stands = search rules;
      gone = search rules;
    }

pub lose-requires-clause-lawful : goal.lose-requires-clause-lawful
lose-requires-clause-lawful g c =
    sent_lawfully g.W.World.tells g.W.World.book g.C.Child.connection g.C.Child.log c.args.parts.now _ c.args.at c.remove-call.result c.send.result (g.C.Child.sends c.send.new.self.child)
    c.send.ensures.own.0 c.send.ensures.log c.requires.within c.remove-call.ensures.value c.remove-call.ensures.items c.requires.lawful

pub returns-in-Ok-send-clause-lawful : goal.returns-in-Ok-send-clause-lawful
returns-in-Ok-send-clause-lawful g c =
    sent_lawfully g.W.World.tells g.W.World.book g.C.Child.connection g.C.Child.log c.args.parts.now _ c.args.at c.remove-call.result c.send.result (g.C.Child.sends c.send.new.self.child)
    c.send.ensures.own.0 c.send.ensures.log c.requires.within c.remove-call.ensures.value c.remove-call.ensures.items c.requires.lawful
