use Rattle.std.proofs.Common.{ap}
use Rattle.scan_core.proofs.Nexting.{by_items, by_parents}
use Rattle.scan_core.specs.Calls.{inner_of, inner_view}
use Rattle.scan_core.specs.Courses.{table_of, state_of}
use Rattle.scan_core.proofs.course.Course.next_step.Goals as goal

pub returns-in-Some : goal.returns-in-Some
returns-in-Some g c =
    by_items (table_of c.args.scope.now) c.args.scope.now.request c.args.scope.now.window (state_of c.args.scope.now c.args.self.now) (inner_of c.args.scope.now.items c.args.self.now.walk c.in-Some.call) c.items_step.result
    (c.first_is_decided.ensures.no c.if-first_is_decided.false) (c.has_item.ensures.no c.if-has_item.false) (ap (inner_view c.args.scope.now.items c.args.self.now.walk) c.in-Some.is) c.items_step.ensures

pub returns-in-None : goal.returns-in-None
returns-in-None g c =
    by_parents (table_of c.args.scope.now) c.args.scope.now.request c.args.scope.now.window (state_of c.args.scope.now c.args.self.now) c.parents_step.result
    (c.first_is_decided.ensures.no c.if-first_is_decided.false) (c.has_item.ensures.no c.if-has_item.false) (ap (inner_view c.args.scope.now.items c.args.self.now.walk) c.in-None.is) c.parents_step.ensures
