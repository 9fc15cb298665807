use Rattle.std.proofs.Common.{sym, ◌∙◌}
use Rattle.desk_asking.proofs.Numbers.{named_skip, named_next, named_none}
use Rattle.desk_asking.proofs.places.plain_named.Goals as goal

pub loop-connection-init : goal.loop-connection-init
loop-connection-init c = c.requires

pub loop-connection-preserved-then-connection : goal.loop-connection-preserved-then-connection
loop-connection-preserved-then-connection c =
    named_skip c.args.connections.now c.loop-connection.connection-index c.connection-item.result c.args.name.now c.loop-connection-test.true c.connection-item.is c.if-connection.true c.loop-connection.invariant

pub loop-connection-preserved : goal.loop-connection-preserved
loop-connection-preserved c =
    named_next c.args.connections.now c.loop-connection.connection-index c.connection-item.result c.args.name.now c.loop-connection-test.true c.connection-item.is c.if-connection.false (sym c.eq.ensures ∙ c.if-eq.false) c.loop-connection.invariant

pub unreachable-requires : goal.unreachable-requires
unreachable-requires c = named_none c.args.connections.now c.loop-connection.connection-index c.args.name.now c.loop-connection-test.false c.loop-connection.invariant
