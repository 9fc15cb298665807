use Rattle.std.proofs.Common.{refl, ap, subst}
use Rattle.scan_core.proofs.Ending.{none_of}
use Rattle.scan_core.proofs.Keeping.{advances_none, advances_more}
use Rattle.scan_core.proofs.Going.{goes_kept, goes_then}
use Rattle.scan_core.proofs.Weighing.{step_less}
use Rattle.scan_core.specs.Courses.{state_of, table_of, end_view}
use Rattle.scan_core.specs.Next.{IsNext}
use Rattle.scan_core.specs.declared.step.NextStep.{NextStep}
use Rattle.scan_core.proofs.course.Course.advance.Goals as goal

pub returns-in-Wait-clause-still : goal.returns-in-Wait-clause-still
returns-in-Wait-clause-still g c = λ none.
    subst (λ (x : NextStep). IsNext (table_of c.args.scope.now) c.args.scope.now.request c.args.scope.now.window (state_of c.args.scope.now c.steps.self) x) c.in-Wait.is c.next_step-step.ensures

pub steps-smaller : goal.steps-smaller
steps-smaller g c =
    step_less (table_of c.args.scope.now) c.args.scope.now.request c.args.scope.now.window (state_of c.args.scope.now c.steps.self) (state_of c.args.scope.now c.go.new.self)
    (ap (end_view c.steps.self.walk) (none_of c.steps.self.end c.is_none.result c.is_none.ensures c.steps-test.true)) c.in-Ok.ensures.state

pub steps-preserved : goal.steps-preserved
steps-preserved g c = record {
  form = c.go.ensures.form;
  advances = advances_more (table_of c.args.scope.now) c.args.scope.now.request c.args.scope.now.window (state_of c.args.scope.now c.args.self.now) (state_of c.args.scope.now c.steps.self) (state_of c.args.scope.now c.go.new.self)
      c.steps.invariant.advances (ap (end_view c.steps.self.walk) (none_of c.steps.self.end c.is_none.result c.is_none.ensures c.steps-test.true)) c.in-Ok.ensures.state;
  goes = goes_then c.args.self.now c.steps.self c.go.new.self c.steps.invariant.goes c.go.ensures.goes;
}

pub steps-init : goal.steps-init
steps-init g c = record {
  form = c.requires.form;
  advances = advances_none (table_of c.args.scope.now) c.args.scope.now.request c.args.scope.now.window (state_of c.args.scope.now c.args.self.now) (state_of c.args.scope.now c.args.self.now) refl;
  goes = goes_kept c.args.self.now c.args.self.now (refl, refl);
}

pub returns-in_default-go-clause-goes : goal.returns-in_default-go-clause-goes
returns-in_default-go-clause-goes g c = goes_then c.args.self.now c.steps.self c.go.new.self c.steps.invariant.goes c.go.ensures.goes
