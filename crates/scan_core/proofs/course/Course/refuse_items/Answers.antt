use Rattle.std.proofs.Common.{ap, ◌∙◌, None, suc}
use Rattle.sp_model.specs.Settling.{Refuse}
use Rattle.sp_model.specs.declared.outcome.Walk.TheVariants.{Failed}
use Rattle.scan_laws.specs.Steps.{ended_so}
use Rattle.scan_core.proofs.Ending.{ends_by, says_of, no_inner}
use Rattle.scan_core.specs.Calls.{inner_of, inner_view}
use Rattle.scan_core.specs.Courses.{state_of}
use Rattle.scan_core.proofs.course.Course.refuse_items.Goals as goal

pub unreachable-requires : goal.unreachable-requires
unreachable-requires g c =
    no_inner (state_of c.args.scope.now c.args.self.now) (Refuse c.requires.refused.1) c.requires.refused.0 c.requires.refused.2 (ap (inner_view c.args.scope.now.items c.args.self.now.walk) c.in_default.is)

pub refusal-requires : goal.refusal-requires
refusal-requires g c =
    let w = says_of (state_of c.args.scope.now c.args.self.now) (inner_of c.args.scope.now.items c.args.self.now.walk c.in-Some.items) (Refuse c.requires.refused.1) c.requires.refused.0 c.requires.refused.2
    (ap (inner_view c.args.scope.now.items c.args.self.now.walk) c.in-Some.is) in
    (w.0, c.requires.refused.1, w.1, w.2)

pub returns-clause-state : goal.returns-clause-state
returns-clause-state g c =
    let st = state_of c.args.scope.now c.args.self.now in
    let i = inner_of c.args.scope.now.items c.args.self.now.walk c.in-Some.items in
    let is = ap (inner_view c.args.scope.now.items c.args.self.now.walk) c.in-Some.is in
    let w = says_of st i (Refuse c.requires.refused.1) c.requires.refused.0 c.requires.refused.2 is in
    let cause = c.in-Ok.ensures w.0 c.requires.refused.1 w.1 w.2 in
    ends_by st _ i w.0 (Refuse c.requires.refused.1) c.requires.refused.0 is w.1 w.2 w.3 (c.requires.refused.3, c.in-Ok-fail.ensures.state ∙ ap (λ x. ended_so st (Failed (suc c.args.self.now.walk.items) None x)) cause)
