use Rattle.std.proofs.Common.{◌≡◌, true, rules}
use Rattle.sql_bind.specs.Known.{declaration_of}
use Rattle.declaration_run.proofs.Groups.{one_group_more, all_groups}
use Rattle.declaration_run.proofs.agreeing.agrees.Goals as goal

pub loop-group-preserved : goal.loop-group-preserved
loop-group-preserved c =
    let said : c.agrees_in.result ≡ true = search rules in
    one_group_more (declaration_of c.args.catalog.now) c.args.connections.now c.args.groups.now c.args.connection.now c.loop-group.group-index c.group-item.result c.as_slice.result.now c.loop-group-test.true c.group-item.is c.as_slice.ensures c.loop-group.invariant (c.agrees_in.ensures.yes said)

pub returns-clause-yes : goal.returns-clause-yes
returns-clause-yes c = λ same.
    all_groups (declaration_of c.args.catalog.now) c.args.connections.now c.args.groups.now c.args.connection.now c.loop-group.group-index c.loop-group-test.false c.loop-group.invariant
