use Rattle.std.proofs.Common.{◌∙◌, true, arith, subst, sym, ap}
use Rattle.rate_gate.specs.Journal.{last_tick}
use Rattle.plain_desk.specs.Grants.{AreHeld}
use Rattle.plain_desk.proofs.Granting.{held_last, last_of_return}
use Rattle.plain_desk.proofs.losing.end_flights.Goals as goal

pub end_flight-requires-clause-grant : goal.end_flight-requires-clause-grant
end_flight-requires-clause-grant c =
    (held_last c.loop-i.gate.journal c.args.tick true c.loop-i.flights.items c.take_last-flight.new.self.items c.take_last-flight.result c.take_last-flight.ensures.items c.loop-i.invariant.held).0

pub loop-i-preserved : goal.loop-i-preserved
loop-i-preserved c =
    let e = held_last c.loop-i.gate.journal c.args.tick true c.loop-i.flights.items c.take_last-flight.new.self.items c.take_last-flight.result c.take_last-flight.ensures.items c.loop-i.invariant.held in
    record {
      held = subst (λ j. AreHeld j c.take_last-flight.new.self.items) (sym c.end_flight.ensures) e.1;
      clock = (let t = ap last_tick c.end_flight.ensures ∙ last_of_return c.loop-i.gate.journal c.take_last-flight.result.used.number c.args.tick true in omega (arith, t));
      left = omega (arith, c.loop-i.invariant.left, c.take_last-flight.ensures.len);
    }
