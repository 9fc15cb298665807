use Rattle.std.proofs.Common.{◌≡◌, ◌++◌, ◌∷◌, [], List, Some, None, refl, sym, ap, ◌∙◌, arith}
use Rattle.std.specs.Arc.{arc_value}
use Rattle.row_pool.specs.Pools.{shown}
use Rattle.row_flight.proofs.Fresh.{put_view, put_hears}
use Rattle.row_flight.proofs.Pooling.{seated_length, seated_shows, begun_row, pushed, pushed_rows}
use Rattle.row_flight.specs.Flying.{InFlight, Seated}
use Rattle.row_flight.specs.Pooled.{seated}
use Rattle.row_flight.specs.Rows.{IsRow}
use Rattle.row_flight.proofs.flight.Flight.put.Goals as goal

pub unreachable-requires : goal.unreachable-requires
unreachable-requires c =
    let f = c.self.invariant.0 in
    let l = rw (← c.self.view_is) at c.requires in
    let n = seated_length c.self.inside.pool c.self.inside.order.items f.shows in
    let used = f.used in
    let room = f.room in
    let full = c.in_default.ensures.full.0 refl in
    omega (arith, l, n, used, room, full)

pub push_back_reserved-requires : goal.push_back_reserved-requires
push_back_reserved-requires c =
    let f = c.self.invariant.0 in
    let l = rw (← c.self.view_is) at c.requires in
    let n = seated_length c.self.inside.pool c.self.inside.order.items f.shows in
    let k = c.self.inside.order.ok.0 in
    let room = c.self.invariant.2 in
    omega (arith, l, n, k, room)

pub invariant_of-self : goal.invariant_of-self
invariant_of-self c =
    let plan = arc_value c.self.inside.plan in
    let f = c.self.invariant.0 in
    let begun_is = c.in_ok-row.ensures.begun in
    let is : IsRow c.in_ok-row.row = rw begun_is (begun_row plan c.args.item f.sound.rules) in
    let all = pushed plan c.self.inside.window c.self.inside.drawn c.self.inside.pool c.take.new.self c.self.inside.order.items c.in-Ok.key c.in_ok-row.row f c.in-Ok.ensures.new_key c.in-Ok.ensures.shows
    (ap (λ r. r.graph.plan) begun_is) is c.in-Ok.ensures.taken c.in-Ok.ensures.count c.in-Ok.ensures.drawn in
    let capacity = c.push_back_reserved.ensures.capacity in
    let room = c.self.invariant.2 in
    let few = c.if-self-ge-MOST_ROWS.false in
    (rw c.push_back_reserved.ensures.items all, omega (arith, few), omega (arith, room, capacity))

pub returns-clause-ok : goal.returns-clause-ok
returns-clause-ok c =
    let p = c.self.inside.pool in
    let items = c.self.inside.order.items in
    let all : List Seated → InFlight = λ rows. record { plan = arc_value c.self.inside.plan; frame = c.self.inside.frame; window = c.self.inside.window; rows = rows } in
    let rows = pushed_rows (arc_value c.self.inside.plan) c.self.inside.window c.self.inside.drawn p c.take.new.self items c.in-Ok.key c.in_ok-row.row c.self.invariant.0 c.in-Ok.ensures.new_key c.in-Ok.ensures.shows in
    rw (← c.self.view_is)
    (record {
      key = c.in-Ok.key;
      own = λ place s at same.
          let bad : Some s.row ≡ None = sym (seated_shows p items place s at) ∙ ap (shown p) same ∙ c.in-Ok.ensures.new_key in
          absurd (cc);
      is = ap all (ap (seated c.take.new.self) c.push_back_reserved.ensures.items ∙ rows ∙ ap (λ r. seated p items ++ record { key = c.in-Ok.key; row = r } ∷ []) c.in_ok-row.ensures.begun);
    })

pub returns-clause-view : goal.returns-clause-view
returns-clause-view c = put_view _ _ c.args.item (returns-clause-ok c)

pub returns-clause-hear : goal.returns-clause-hear
returns-clause-hear c = λ table answers hear. put_hears _ _ c.args.item (returns-clause-ok c) table answers hear
