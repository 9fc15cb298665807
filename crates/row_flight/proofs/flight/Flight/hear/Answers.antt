use Rattle.std.proofs.Common.{◌≡◌, true, List, [], Some, refl, sym, ap, subst, ◌∙◌}
use Rattle.std.specs.Arc.{arc_value}
use Rattle.hydrate_graph.proofs.Hydrating.{and_left}
use Rattle.hydrate_graph.specs.Graphs.{is_ready}
use Rattle.row_pool.specs.Pools.{shown}
use Rattle.row_flight.proofs.Answering.{if_some, on_err, hears_plan, hears_row, sits_shown, answer_goes}
use Rattle.row_flight.proofs.Pooling.{rewritten, unwritten, heard_rows}
use Rattle.row_flight.specs.Flying.{InFlight, Seated, key_at}
use Rattle.row_flight.specs.Hearing.{Keeps}
use Rattle.row_flight.specs.Pooled.{seated, Rewrites}
use Rattle.row_flight.specs.Rows.{attempt_of, row_hears}
use Rattle.row_flight.proofs.flight.Flight.hear.Goals as goal

pub hear_at-requires-clause-ready : goal.hear_at-requires-clause-ready
hear_at-requires-clause-ready c =
    let o = rw (← c.self.view_is) at c.requires.open in
    let at : shown c.self.inside.pool (key_at c.args.seat) ≡ Some o.0 =
    sits_shown (arc_value c.self.inside.plan) c.self.inside.frame c.self.inside.window c.self.inside.drawn c.self.inside.pool c.self.inside.order.items c.self.invariant.0 c.args.seat o.0 o.1 in
    if_some (λ row. is_ready row.graph c.args.seat.function ≡ true) _ o.0 (ap (shown c.self.inside.pool) c.key_of.ensures ∙ at) (and_left (is_ready o.0.graph c.args.seat.function) (attempt_of o.0 c.args.seat.function).listed o.2)

pub invariant_of-self : goal.invariant_of-self
invariant_of-self c =
    let o = rw (← c.self.view_is) at c.requires.open in
    let at : shown c.self.inside.pool c.key_of.result ≡ Some o.0 =
    ap (shown c.self.inside.pool) c.key_of.ensures
    ∙ sits_shown (arc_value c.self.inside.plan) c.self.inside.frame c.self.inside.window c.self.inside.drawn c.self.inside.pool c.self.inside.order.items c.self.invariant.0 c.args.seat o.0 o.1 in
    let r = c.self.invariant.0.rows c.key_of.result o.0 at in (
      rewritten (arc_value c.self.inside.plan) c.self.inside.window c.self.inside.drawn c.self.inside.pool c.hear_at.new.pool c.self.inside.order.items c.self.invariant.0 c.key_of.result o.0 o.0 at
          (c.in_err-hear_at.ensures.err o.0 at) r.0 r.1,
      c.self.invariant.1,
      c.self.invariant.2,
    )

pub returns-in_err-hear_at-clause-err : goal.returns-in_err-hear_at-clause-err
returns-in_err-hear_at-clause-err c =
    let o = rw (← c.self.view_is) at c.requires.open in
    let at : shown c.self.inside.pool c.key_of.result ≡ Some o.0 =
    ap (shown c.self.inside.pool) c.key_of.ensures
    ∙ sits_shown (arc_value c.self.inside.plan) c.self.inside.frame c.self.inside.window c.self.inside.drawn c.self.inside.pool c.self.inside.order.items c.self.invariant.0 c.args.seat o.0 o.1 in
    let all : List Seated → InFlight = λ rows. record { plan = arc_value c.self.inside.plan; frame = c.self.inside.frame; window = c.self.inside.window; rows = rows } in
    on_err _ c.from_residual.result
    (rw (← c.self.view_is) (ap all (unwritten (arc_value c.self.inside.plan) c.self.inside.window c.self.inside.drawn c.self.inside.pool c.hear_at.new.pool c.self.inside.order.items c.self.invariant.0 c.key_of.result o.0 o.0 at
    (c.in_err-hear_at.ensures.err o.0 at) refl)))

pub invariant_of-self-2 : goal.invariant_of-self-2
invariant_of-self-2 c =
    let o = rw (← c.self.view_is) at c.requires.open in
    let at : shown c.self.inside.pool c.key_of.result ≡ Some o.0 =
    ap (shown c.self.inside.pool) c.key_of.ensures
    ∙ sits_shown (arc_value c.self.inside.plan) c.self.inside.frame c.self.inside.window c.self.inside.drawn c.self.inside.pool c.self.inside.order.items c.self.invariant.0 c.args.seat o.0 o.1 in
    let r = c.self.invariant.0.rows c.key_of.result o.0 at in (
      rewritten (arc_value c.self.inside.plan) c.self.inside.window c.self.inside.drawn c.self.inside.pool c.hear_at.new.pool c.self.inside.order.items c.self.invariant.0 c.key_of.result o.0
          (row_hears o.0 c.args.seat.function c.args.piece c.args.tick) at (c.in_ok-hear_at.ensures.heard o.0 at) (hears_plan o.0 c.args.seat.function c.args.piece c.args.tick ∙ r.0)
          (hears_row o.0 c.args.seat.function c.args.piece c.args.tick r.1),
      c.self.invariant.1,
      c.self.invariant.2,
    )

pub returns-clause-ok : goal.returns-clause-ok
returns-clause-ok c =
    let o = rw (← c.self.view_is) at c.requires.open in
    let at : shown c.self.inside.pool (key_at c.args.seat) ≡ Some o.0 =
    sits_shown (arc_value c.self.inside.plan) c.self.inside.frame c.self.inside.window c.self.inside.drawn c.self.inside.pool c.self.inside.order.items c.self.invariant.0 c.args.seat o.0 o.1 in
    let all : List Seated → InFlight = λ rows. record { plan = arc_value c.self.inside.plan; frame = c.self.inside.frame; window = c.self.inside.window; rows = rows } in
    let writes =
    subst (λ key. Rewrites c.self.inside.pool c.hear_at.new.pool key (row_hears o.0 c.args.seat.function c.args.piece c.args.tick)) c.key_of.ensures
    (c.in_ok-hear_at.ensures.heard o.0 (ap (shown c.self.inside.pool) c.key_of.ensures ∙ at)) in
    rw (← c.self.view_is) (ap all (heard_rows c.args.seat c.args.piece c.args.tick c.self.inside.pool c.hear_at.new.pool o.0 at writes.changes c.self.inside.order.items))

pub returns-clause-keeps : goal.returns-clause-keeps
returns-clause-keeps c = λ table request answers asked of apart agree hear awaits piece.
    let o = rw (← c.self.view_is) at c.requires.open in
    let at : shown c.self.inside.pool (key_at c.args.seat) ≡ Some o.0 =
    sits_shown (arc_value c.self.inside.plan) c.self.inside.frame c.self.inside.window c.self.inside.drawn c.self.inside.pool c.self.inside.order.items c.self.invariant.0 c.args.seat o.0 o.1 in
    let there = ap (shown c.self.inside.pool) c.key_of.ensures ∙ at in
    let writes = subst (λ key. Rewrites c.self.inside.pool c.hear_at.new.pool key (row_hears o.0 c.args.seat.function c.args.piece c.args.tick)) c.key_of.ensures (c.in_ok-hear_at.ensures.heard o.0 there) in
    let placed = c.in_ok-hear_at.ensures.placed o.0 there in
    let rows = heard_rows c.args.seat c.args.piece c.args.tick c.self.inside.pool c.hear_at.new.pool o.0 at writes.changes c.self.inside.order.items in
    let goes = answer_goes (arc_value c.self.inside.plan) c.self.inside.frame c.self.inside.window c.self.inside.drawn c.self.inside.pool c.self.inside.order.items c.self.invariant.0 c.args.seat o.0 placed.0 at placed.1 placed.2 c.args.piece
    c.args.tick table request answers asked (rw (← c.self.view_is) at of) apart (rw (← c.self.view_is) at agree) (rw (← c.self.view_is) at hear) (rw (← c.self.view_is) at awaits) piece in
    rw (← c.self.view_is) (subst (λ new. Keeps table request answers (seated c.self.inside.pool c.self.inside.order.items) new []) (sym rows) goes)
