use Rattle.std.proofs.Common.{◌<◌, length, sym, ◌∙◌, arith}
use Rattle.call_queue.proofs.Naming.{none_of_absent}
use Rattle.call_queue.proofs.lines.pick_named.Goals as goal

pub returns-then-place-lines-clause-picked : goal.returns-then-place-lines-clause-picked
returns-then-place-lines-clause-picked c =
    none_of_absent c.args.gate.now c.args.tick c.args.lines.now c.args.name.now (sym c.if-place-lines.true ∙ c.place_of-place.ensures.place)

pub returns-clause-others : goal.returns-clause-others
returns-clause-others c =
    let within : c.place_of-place.result < length c.args.lines.now = omega (arith, c.place_of-place.ensures.within) in
    c.pick_at.ensures.others c.args.name.now (record { within = within; first = c.place_of-place.ensures.place })
