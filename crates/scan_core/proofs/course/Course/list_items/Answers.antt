use Rattle.scan_core.proofs.Listed.{items_lists, items_on, items_kept}
use Rattle.scan_core.proofs.course.Course.list_items.Goals as goal

pub returns-clause-lists : goal.returns-clause-lists
returns-clause-lists g c =
    items_lists c.args.scope.now c.args.self.now c.in-Some.call c.list.new.self c.args.scan c.items_slot-slot.result c.items_function-function.result c.args.into.now c.list.new.into c.in-Some.is c.items_slot-slot.ensures
    c.items_function-function.ensures c.in-Ok.ensures.lists c.in-Ok.ensures.listed

pub returns-clause-listed : goal.returns-clause-listed
returns-clause-listed g c = λ i is. items_on c.in-Some.call c.list.new.self i is (λ l. (c.in-Ok.ensures.lists l).0) (λ l. (c.in-Ok.ensures.listed l).0)

pub returns-clause-form : goal.returns-clause-form
returns-clause-form g c = items_kept c.args.scope.now c.args.self.now c.in-Some.call c.list.new.self c.requires c.in-Some.is (λ l. (c.in-Ok.ensures.lists l).0) (λ l. (c.in-Ok.ensures.listed l).0)
