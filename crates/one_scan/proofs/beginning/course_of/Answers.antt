use Rattle.std.proofs.Common.{sym, ap, subst, ◌∙◌}
use Rattle.hydrate_graph.specs.Graphs.{rules_in}
use Rattle.one_scan.proofs.Begun.{plan_form, begun_result}
use Rattle.one_scan.specs.Forms.{IsPlanForm}
use Rattle.scan_core.specs.Courses.{table_of}
use Rattle.one_scan.proofs.beginning.course_of.Goals as goal

pub returns-clause-begun : goal.returns-clause-begun
returns-clause-begun g c =
    let scope = c.args.scope.now in
    let p = c.in_ok-plan.ensures in
    begun_result scope c.in_ok-plan-2.plan.value c.begin.result c.begin.ensures.state c.begin.ensures.form c.begin.ensures.flight
    (subst (IsPlanForm (table_of scope)) (sym c.in_ok-plan-2.ensures.ok)
    (plan_form (table_of scope) scope.request c.in_ok-plan.plan c.requires.lawful (p.functions ∙ ap (λ t. t.functions) c.deref.ensures) (p.rules ∙ ap (λ t. rules_in t t.functions) c.deref.ensures) p.count p.apart))
