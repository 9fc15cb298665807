use Rattle.std.proofs.Common.{drop, ap, ◌+◌, ◌∙◌}
use Rattle.std.specs.List.{flat_map}
use Rattle.sql_bind.specs.Answer.{each_once}
use Rattle.sql_bind.specs.Members.{members_named}
use Rattle.sql_bind.proofs.Onces.{once_more}
use Rattle.sql_bind.proofs.needed.members_of.Goals as goal

pub loop-connection-preserved : goal.loop-connection-preserved
loop-connection-preserved c =
    let members = members_named c.args.catalog.now.settings in
    let names = c.args.connections.now in
    let i = c.loop-connection.connection-index in
    ap (λ found. each_once found (flat_map members (drop (i + 1) names))) c.in_ok-add_members.ensures
    ∙ once_more members c.loop-connection.names names i c.connection-item.result c.loop-connection-test.true c.connection-item.is
    ∙ c.loop-connection.invariant
