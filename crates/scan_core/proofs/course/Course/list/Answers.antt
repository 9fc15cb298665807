use Rattle.std.proofs.Common.{refl}
use Rattle.scan_core.proofs.Listed.{none_listed, call_listed, rows_listed}
use Rattle.scan_core.proofs.course.Course.list.Goals as goal

pub returns-then-is_some-clause-lists : goal.returns-then-is_some-clause-lists
returns-then-is_some-clause-lists g c = none_listed c.args.scope.now c.args.scan c.args.self.now c.args.into.now c.args.into.now refl

pub returns-in_default-clause-lists : goal.returns-in_default-clause-lists
returns-in_default-clause-lists g c = call_listed c.args.scope.now c.args.scan c.args.self.now c.list_call.new.self c.args.into.now c.list_call.new.into c.list_call.ensures.lists

pub returns-in_default-list-clause-form : goal.returns-in_default-list-clause-form
returns-in_default-list-clause-form g c = rows_listed c.args.scope.now c.args.scan c.list_call.new.self c.list.new.self c.list_call.new.into c.list.new.into c.list_call.ensures.form c.list.ensures.lists

pub returns-clause-form : goal.returns-clause-form
returns-clause-form g c = rows_listed c.args.scope.now c.args.scan c.list_call.new.self c.list.new.self c.list_call.new.into c.list.new.into c.list_call.ensures.form c.list.ensures.lists
