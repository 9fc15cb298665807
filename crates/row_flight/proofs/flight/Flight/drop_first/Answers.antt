use Rattle.std.proofs.Common.{◌≡◌, ◌+◌, List, refl, ap, subst, ◌∙◌, arith}
use Rattle.std.specs.Arc.{arc_value}
use Rattle.row_pool.specs.Pools.{shown, taken}
use Rattle.row_flight.proofs.Pooling.{some_of, on_some, first_row, popped}
use Rattle.row_flight.specs.Flying.{InFlight, Seated}
use Rattle.row_flight.specs.Pooled.{seated, IsFlight}
use Rattle.row_flight.proofs.flight.Flight.drop_first.Goals as goal

pub invariant_of-self : goal.invariant_of-self
invariant_of-self c =
    let p = c.self.inside.pool in
    let q = c.give_back-row.new.self in
    let f = subst (IsFlight (arc_value c.self.inside.plan) c.self.inside.window c.self.inside.drawn p) c.in-Some.ensures.items c.self.invariant.0 in
    let row = some_of (shown p c.in-Some.key) (f.shows 0 c.in-Some.key refl) in
    let used : taken q + 1 ≡ taken p = on_some _ _ row.0 (c.give_back-row.ensures.value ∙ row.1) c.give_back-row.ensures.taken in
    let room = c.self.invariant.2 in
    let capacity = c.pop_front.ensures.capacity in
    (popped (arc_value c.self.inside.plan) c.self.inside.window c.self.inside.drawn p q c.in-Some.key c.pop_front.new.self.items f c.give_back-row.ensures.shows used c.give_back-row.ensures.count c.give_back-row.ensures.drawn, c.self.invariant.1, omega (arith, room, capacity))

pub returns : goal.returns
returns c =
    let p = c.self.inside.pool in
    let q = c.give_back-row.new.self in
    let f = subst (IsFlight (arc_value c.self.inside.plan) c.self.inside.window c.self.inside.drawn p) c.in-Some.ensures.items c.self.invariant.0 in
    let row = some_of (shown p c.in-Some.key) (f.shows 0 c.in-Some.key refl) in
    let all : List Seated → InFlight = λ rows. record { plan = arc_value c.self.inside.plan; frame = c.self.inside.frame; window = c.self.inside.window; rows = rows } in (
      record { key = c.in-Some.key; row = row.0 },
      rw (← c.self.view_is) (ap all (ap (seated p) c.in-Some.ensures.items
          ∙ first_row (arc_value c.self.inside.plan) c.self.inside.window c.self.inside.drawn p q c.in-Some.key c.pop_front.new.self.items f c.give_back-row.ensures.shows row.0 row.1)),
    )
