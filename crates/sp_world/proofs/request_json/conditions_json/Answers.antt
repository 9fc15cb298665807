use Rattle.serde_json.proofs.Views.{view-Array}
use Rattle.sp_world.proofs.RequestTexts.{all_written, conditions_back, conditions_no_float, conditions_whole, conditions_depth}
use Rattle.sp_world.proofs.request_json.conditions_json.Goals as goal

pub returns-clause-value : goal.returns-clause-value
returns-clause-value c =
    let l = c.loop-condition in
    let w = all_written l.values.items c.args.conditions.now l.condition-index c.loop-condition-test.false l.invariant.0 l.invariant.1 in
    rw (view-Array, w.same)

pub returns-clause-back : goal.returns-clause-back
returns-clause-back c =
    let l = c.loop-condition in
    rw view-Array (conditions_back _ _ (all_written l.values.items c.args.conditions.now l.condition-index c.loop-condition-test.false l.invariant.0 l.invariant.1))

pub returns-clause-no_float : goal.returns-clause-no_float
returns-clause-no_float c =
    let l = c.loop-condition in
    rw view-Array (conditions_no_float _ _ (all_written l.values.items c.args.conditions.now l.condition-index c.loop-condition-test.false l.invariant.0 l.invariant.1))

pub returns-clause-whole : goal.returns-clause-whole
returns-clause-whole c =
    let l = c.loop-condition in
    rw view-Array (conditions_whole _ _ (all_written l.values.items c.args.conditions.now l.condition-index c.loop-condition-test.false l.invariant.0 l.invariant.1))

pub returns-clause-nests : goal.returns-clause-nests
returns-clause-nests c =
    let l = c.loop-condition in
    rw view-Array (conditions_depth _ _ (all_written l.values.items c.args.conditions.now l.condition-index c.loop-condition-test.false l.invariant.0 l.invariant.1))
