use Rattle.std.proofs.Common.{◌≡◌, length, ◌∙◌, arith}
use Rattle.call_queue.proofs.Naming.{emptied_absent}
use Rattle.call_queue.proofs.lines.clear_named.Goals as goal

pub returns-then-place-lines-clause-others : goal.returns-then-place-lines-clause-others
returns-then-place-lines-clause-others c = (c.clear_at.ensures c.args.name.now (record { within = c.if-place-lines.true; first = c.place_of-place.ensures.place })).1

pub returns-else-place-lines-clause-line : goal.returns-else-place-lines-clause-line
returns-else-place-lines-clause-line c =
    let whole : length c.args.lines.now ≡ c.place_of-place.result = omega (arith, c.place_of-place.ensures.within) in
    emptied_absent c.args.lines.now c.args.name.now (whole ∙ c.place_of-place.ensures.place)
