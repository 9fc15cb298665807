use Rattle.std.proofs.Common.{◌≡◌, rules, Some, None, sym, ap, ◌∙◌}
use Rattle.std.specs.Arc.{arc_value}
use Rattle.std.specs.Option.{option_copied}
use Rattle.row_pool.specs.Pools.{shown}
use Rattle.row_flight.proofs.Answering.{awaited, nobody_awaits}
use Rattle.row_flight.specs.Flying.{key_at}
use Rattle.row_flight.proofs.flight.Flight.awaits.Goals as goal

pub awaits-requires : goal.awaits-requires
awaits-requires c = (c.self.invariant.0.rows c.key_of.result c.in-Some.row.now (sym c.get.ensures ∙ ap option_copied c.in-Some.is)).1

pub returns-in_ok-awaited-in-Some : goal.returns-in_ok-awaited-in-Some
returns-in_ok-awaited-in-Some c =
    let at : shown c.self.inside.pool (key_at c.args.seat) ≡ Some c.in-Some.row.now = ap (shown c.self.inside.pool) (sym c.key_of.ensures) ∙ sym c.get.ensures ∙ ap option_copied c.in-Some.is in
    let connection : c.args.asked.now.connection ≡ c.self.inside.frame.connection = search rules in
    let version : c.args.asked.now.version ≡ c.self.inside.frame.version = search rules in
    rw (← c.self.view_is)
    (awaited (arc_value c.self.inside.plan) c.self.inside.frame c.self.inside.window c.self.inside.drawn c.self.inside.pool c.self.inside.order.items c.self.invariant.0 c.args.seat c.in-Some.row.now c.args.asked.now c.args.piece.now
    c.in_ok-awaited-in-Some.awaited at connection version c.in_ok-awaited-in-Some.ensures)

pub returns-in-None : goal.returns-in-None
returns-in-None c =
    let none : shown c.self.inside.pool (key_at c.args.seat) ≡ None = ap (shown c.self.inside.pool) (sym c.key_of.ensures) ∙ sym c.get.ensures ∙ ap option_copied c.in-None.is in
    rw (← c.self.view_is) (
      λ t. absurd (cc),
      λ a. absurd (nobody_awaits (arc_value c.self.inside.plan) c.self.inside.frame c.self.inside.window c.self.inside.drawn c.self.inside.pool c.self.inside.order.items c.self.invariant.0 c.args.seat c.args.asked.now c.args.piece.now none a),
    )
