use Rattle.std.proofs.Common.{ap, ◌∙◌, Some, None, suc}
use Rattle.sp_model.specs.Settling.{Refuse, judged}
use Rattle.sp_model.specs.declared.outcome.Walk.TheVariants.{Failed}
use Rattle.sp_model.specs.declared.scan.Cause.TheVariants.{Error}
use Rattle.scan_laws.specs.Steps.{ended_so}
use Rattle.scan_core.proofs.Ending.{outer_by, outer_says, no_outer}
use Rattle.scan_core.specs.Calls.{outer_of, outer_view}
use Rattle.scan_core.specs.Courses.{state_of, table_of}
use Rattle.scan_core.specs.Next.{outer_source}
use Rattle.scan_core.proofs.course.Course.refuse_parents.Goals as goal

pub unreachable-requires : goal.unreachable-requires
unreachable-requires g c =
    no_outer (outer_source (table_of c.args.scope.now)) (state_of c.args.scope.now c.args.self.now) (Refuse c.requires.refused.0) c.requires.refused.1 (ap outer_view c.in_default.is)

pub refusal-requires : goal.refusal-requires
refusal-requires g c =
    let w = outer_says (outer_source (table_of c.args.scope.now)) (state_of c.args.scope.now c.args.self.now) (outer_of c.in-Some.parents) (Refuse c.requires.refused.0) c.requires.refused.1 (ap outer_view c.in-Some.is) in
    (w.0, c.requires.refused.0, w.1, ap (λ s. judged s.rule c.in-Some.parents.call.stream.call.attempt (Some w.0)) c.requires.sources.parents ∙ w.2)

pub returns-clause-state : goal.returns-clause-state
returns-clause-state g c =
    let st = state_of c.args.scope.now c.args.self.now in
    let source = outer_source (table_of c.args.scope.now) in
    let is = ap outer_view c.in-Some.is in
    let w = outer_says source st (outer_of c.in-Some.parents) (Refuse c.requires.refused.0) c.requires.refused.1 is in
    let attempt = c.in-Some.parents.call.stream.call.attempt in
    let cause = c.in-Ok.ensures w.0 c.requires.refused.0 w.1 (ap (λ s. judged s.rule attempt (Some w.0)) c.requires.sources.parents ∙ w.2) in
    outer_by (table_of c.args.scope.now) st _ (outer_of c.in-Some.parents) w.0 (Refuse c.requires.refused.0) is c.requires.refused.1.closed w.3 w.1 w.2 (
      c.requires.refused.2,
      c.in-Ok-fail.ensures.state ∙ ap (λ x. ended_so st (Failed (suc c.args.self.now.walk.items) None x)) cause
          ∙ ap (λ s. ended_so st (Failed (suc c.args.self.now.walk.items) None (Error s.function attempt c.requires.refused.0))) c.requires.sources.parents,
    )
