use Rattle.scan_core.specs.Advances.{Advances}
use Rattle.scan_core.specs.Courses.{state_of, table_of, IsCourse}
use Rattle.scan_core.specs.Going.{GoesOn}
use Rattle.scan_core.specs.Weights.{weight}
use Rattle.scan_core.proofs.course.Course.advance.Given as goal

abbrev pub invariant-steps : goal.invariant-steps
invariant-steps g l = record {
  form : IsCourse l.scope l.self;
  advances : Advances (table_of l.scope) l.scope.request l.scope.window (state_of l.scope l.fn.self) (state_of l.scope l.self);
  goes : GoesOn l.fn.self l.self;
}

abbrev pub decreases-steps : goal.decreases-steps
decreases-steps g l = weight (state_of l.scope l.self)
