use Rattle.std.proofs.Common.{◌≡◌, ◌<◌, length, true, false, None, Some, refl, sym, ap, ◌∙◌, arith}
use Rattle.std.specs.Prelude.{is_some}
use Rattle.std.specs.Option.{option_copied}
use Rattle.hydrate_graph.proofs.Rows.{get_is}
use Rattle.row_pool.specs.Pools.{shown}
use Rattle.std.specs.Arc.{arc_value}
use Rattle.row_flight.proofs.FirstRow.{first_stands}
use Rattle.row_flight.proofs.flight.Flight.first.Goals as goal

pub returns-in-Some-get-clause-row : goal.returns-in-Some-get-clause-row
returns-in-Some-get-clause-row c = λ table request of.
    let items = c.self.inside.order.items in
    let n = c.self.inside.order.ok.0 in
    let l : 0 < length items = (let v = c.in-Some.ensures.variant.0 refl in omega (arith, n, v)) in
    let at = get_is items 0 c.in-Some.key.now l c.in-Some.ensures.lookup in
    let is : shown c.self.inside.pool c.in-Some.key.now ≡ Some c.in-Some-get.row.now = sym c.get.ensures ∙ ap option_copied c.in-Some-get.is in
    rw (← c.self.view_is)
    (first_stands (arc_value c.self.inside.plan) c.self.inside.frame c.self.inside.window c.self.inside.drawn c.self.inside.pool items c.self.invariant.0 c.in-Some.key.now c.in-Some-get.row.now at is table request
    (rw (← c.self.view_is) at of))

pub returns-in-None : goal.returns-in-None
returns-in-None c =
    let items = c.self.inside.order.items in
    let n = c.self.inside.order.ok.0 in
    let l : 0 < length items = (let v = c.in-Some.ensures.variant.0 refl in omega (arith, n, v)) in
    let at = get_is items 0 c.in-Some.key.now l c.in-Some.ensures.lookup in
    let none : None ≡ shown c.self.inside.pool c.in-Some.key.now = sym (ap option_copied c.in-None.is) ∙ c.get.ensures in
    let bad : true ≡ false = sym (c.self.invariant.0.shows 0 c.in-Some.key.now at) ∙ ap is_some (sym none) in
    absurd (cc)
