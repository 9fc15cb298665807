use Rattle.std.proofs.Common.{◌≤◌, length, sym, ◌∙◌, arith}
use Rattle.row_flight.proofs.Soonest.{soonest_end, due_by_keys}
use Rattle.row_flight.specs.Dues.{key_due}
use Rattle.row_flight.proofs.flight.Flight.due.Goals as goal

pub returns : goal.returns
returns c =
    let p = c.self.inside.pool in
    let items = c.self.inside.order.items in
    let n = c.self.inside.order.ok.0 in
    let l : length items ≤ c.loop-place.place = omega (arith, n, c.loop-place-test.false) in
    rw (← c.self.view_is) (soonest_end (key_due p) items c.loop-place.least c.loop-place.place l c.loop-place.invariant ∙ sym (due_by_keys p items))
