use Rattle.sp_value.proofs.PutLaws.{less_names, less_values, equal_names, equal_values}
use Rattle.sp_value.proofs.putting.put_parts.Goals as goal

pub returns-in-Less-clause-names : goal.returns-in-Less-clause-names
returns-in-Less-clause-names c =
    less_names c.args.name.now c.args.value.now c.args.names.now c.args.values.now c.loop-index.index c.index-names-index.result c.loop-index-test.true c.requires c.index-names-index.is c.cmp.result c.cmp.ensures
    c.loop-index.into_names c.push_rest.new.into_names _ c.in-Less.is c.in_ok-push_rest-in-Less.ensures.names c.loop-index.invariant.0

pub returns-in-Less-clause-values : goal.returns-in-Less-clause-values
returns-in-Less-clause-values c =
    less_values c.args.name.now c.args.value.now c.args.names.now c.args.values.now c.loop-index.index c.index-names-index.result c.loop-index-test.true c.requires c.index-names-index.is c.cmp.result c.cmp.ensures
    c.loop-index.into_values c.push_rest.new.into_values _ c.in-Less.is c.in_ok-push_rest-in-Less.ensures.values c.loop-index.invariant.1

pub returns-in-Equal-clause-names : goal.returns-in-Equal-clause-names
returns-in-Equal-clause-names c =
    equal_names c.args.name.now c.args.value.now c.args.names.now c.args.values.now c.loop-index.index c.index-names-index.result c.loop-index-test.true c.requires c.index-names-index.is c.cmp.result c.cmp.ensures
    c.loop-index.into_names c.push_rest-in-Equal.new.into_names _ c.in-Equal.is c.in_ok-push_rest-in-Equal.ensures.names c.loop-index.invariant.0

pub returns-in-Equal-clause-values : goal.returns-in-Equal-clause-values
returns-in-Equal-clause-values c =
    equal_values c.args.name.now c.args.value.now c.args.names.now c.args.values.now c.loop-index.index c.index-names-index.result c.loop-index-test.true c.requires c.index-names-index.is c.cmp.result c.cmp.ensures
    c.loop-index.into_values c.push_rest-in-Equal.new.into_values _ c.in-Equal.is c.in_ok-push_rest-in-Equal.ensures.values c.loop-index.invariant.1
