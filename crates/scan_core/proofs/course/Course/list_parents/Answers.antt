use Rattle.scan_core.proofs.Listed.{parents_lists, parents_on, parents_kept}
use Rattle.scan_core.proofs.course.Course.list_parents.Goals as goal

pub returns-clause-lists : goal.returns-clause-lists
returns-clause-lists g c =
    parents_lists c.args.scope.now c.args.self.now c.in-Some.call c.list.new.self c.args.scan c.args.into.now c.list.new.into c.requires.closed c.in-Some.is c.in-Ok.ensures.lists c.in-Ok.ensures.listed

pub returns-clause-listed : goal.returns-clause-listed
returns-clause-listed g c = λ o is. parents_on c.in-Some.call c.list.new.self o is (λ l. (c.in-Ok.ensures.lists l).0) (λ l. (c.in-Ok.ensures.listed l).0)

pub returns-clause-form : goal.returns-clause-form
returns-clause-form g c = parents_kept c.args.scope.now c.args.self.now c.in-Some.call c.list.new.self c.requires.form c.in-Some.is (λ l. (c.in-Ok.ensures.lists l).0) (λ l. (c.in-Ok.ensures.listed l).0)
