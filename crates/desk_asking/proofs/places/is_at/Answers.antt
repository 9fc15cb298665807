use Rattle.std.proofs.Common.{◌∙◌, ap, sym, Some, refl, arith}
use Rattle.std.proofs.lemmas.Slice.Eq.{bytes_eq-Decides}
use Rattle.desk_asking.proofs.Numbers.{place_skip, place_next, place_here}
use Rattle.desk_asking.proofs.places.is_at.Goals as goal

pub loop-connection-init : goal.loop-connection-init
loop-connection-init c = refl

pub loop-connection-preserved-then-connection : goal.loop-connection-preserved-then-connection
loop-connection-preserved-then-connection c =
    c.loop-connection.invariant ∙ place_skip c.args.connections.now c.loop-connection.connection-index c.connection-item.result c.loop-connection.left c.loop-connection-test.true c.connection-item.is c.if-connection.true

pub loop-connection-preserved : goal.loop-connection-preserved
loop-connection-preserved c =
    c.loop-connection.invariant ∙ place_next c.args.connections.now c.loop-connection.connection-index c.connection-item.result c.loop-connection.left _ c.loop-connection-test.true c.connection-item.is c.if-connection.false (omega arith)

pub returns-then-left-eq0 : goal.returns-then-left-eq0
returns-then-left-eq0 c =
    λ h.
    c.loop-connection.invariant
    ∙ place_here c.args.connections.now c.loop-connection.connection-index c.connection-item.result c.loop-connection.left c.loop-connection-test.true c.connection-item.is c.if-connection.false c.if-left-eq0.true
    ∙ ap Some ((bytes_eq-Decides c.connection-item.result.name c.args.name.now).0 (sym c.eq.ensures ∙ h))
