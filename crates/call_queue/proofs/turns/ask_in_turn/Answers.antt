use Rattle.std.proofs.Common.{ℕ, ◌<◌, ◌+◌, length, take, Option, sym, subst, ◌∙◌, arith}
use Rattle.rate_gate.specs.Limits.{GateView}
use Rattle.call_queue.specs.Picking.{IsHeld}
use Rattle.call_queue.specs.Turns.{AreHeld}
use Rattle.call_queue.proofs.Holding.{held_more}
use Rattle.call_queue.proofs.turns.ask_in_turn.Goals as goal

pub loop-place-preserved : goal.loop-place-preserved
loop-place-preserved c =
    let within : c.loop-place.place < length c.args.jobs.now.items = omega (arith, c.args.jobs.now.ok.0) in
    let held : IsHeld c.args.gate.now c.args.tick c.index.result.now c.in-Held.until =
    subst (λ (g : GateView). IsHeld g c.args.tick c.index.result.now c.in-Held.until) c.loop-place.invariant.same c.in-Held.ensures.0 in
    record {
      same = c.in-Held.ensures.1 ∙ c.loop-place.invariant.same;
      held = subst (λ (next : Option ℕ). AreHeld c.args.gate.now c.args.tick (take (c.loop-place.place + 1) c.args.jobs.now.items) next) (sym c.sooner-next.ensures)
          (held_more c.args.gate.now c.args.tick c.args.jobs.now.items c.loop-place.place c.index.result.now c.loop-place.next c.in-Held.until within c.index.ensures c.loop-place.invariant.held held);
    }
