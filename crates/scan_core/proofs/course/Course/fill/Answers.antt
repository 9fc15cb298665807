use Rattle.std.proofs.Common.{refl}
use Rattle.scan_core.proofs.Moving.{filled_state, put_form}
use Rattle.scan_core.proofs.Going.{goes_put}
use Rattle.scan_core.proofs.course.Course.fill.Goals as goal

pub returns-in-Ok-clause-state : goal.returns-in-Ok-clause-state
returns-in-Ok-clause-state g c = record {
  item = c.in-Some.item;
  waiting = c.pop_front.new.self.items;
  first = c.in-Some.ensures.items;
  room = c.requires.item.room;
  stands = filled_state c.args.scope.now c.args.self.now (record c.args.self.now { flight = c.put.new.self; waiting = c.pop_front.new.self }) c.in-Some.item c.in-Some.ensures.items c.in-Ok.ensures.ok refl refl refl refl refl;
}

pub returns-in-Ok-clause-form : goal.returns-in-Ok-clause-form
returns-in-Ok-clause-form g c =
    put_form c.args.scope.now c.args.self.now (record c.args.self.now { flight = c.put.new.self; waiting = c.pop_front.new.self }) c.in-Some.item c.in-Some.ensures.items c.in-Ok.ensures.ok refl refl refl refl c.requires.item.room c.requires.form

pub returns-in-Ok-clause-goes : goal.returns-in-Ok-clause-goes
returns-in-Ok-clause-goes g c =
    goes_put c.args.self.now (record c.args.self.now { flight = c.put.new.self; waiting = c.pop_front.new.self }) c.in-Some.item c.pop_front.new.self.items c.in-Some.ensures.items refl c.in-Ok.ensures.ok
