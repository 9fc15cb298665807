use Rattle.std.proofs.Common.{◌≡◌, refl, sym, ◌∙◌, ap, Some, None}
use Rattle.std.specs.List.{slice_get}
use Rattle.sp_model.specs.declared.outcome.Row.TheVariants.{Broken}
use Rattle.scan_core.proofs.Fronts.{first_row, first_waits, fails_at}
use Rattle.scan_core.specs.Courses.{table_of}
use Rattle.scan_core.proofs.course.Course.first_row.Goals as goal

pub unreachable-requires-in-None : goal.unreachable-requires-in-None
unreachable-requires-in-None g c =
    first_waits _ _ _ c.args.self.now.flight c.in-Some.row.now None refl (sym c.in-Some.ensures.graph) (c.in-Some.ensures.row (table_of c.args.scope.now) c.args.scope.now.request c.requires.form.flight) c.in-None.ensures.exact refl c.requires.first

pub unreachable-requires-in_default-at : goal.unreachable-requires-in_default-at
unreachable-requires-in_default-at g c =
    let f = fails_at _ _ _ c.in-Some-Fails.column c.in-Some-Fails.ensures.exact c.in-Some-Fails.field-0-is in
    let columns = c.columns.ensures ∙ ap (λ p. p.columns) c.plan.ensures in
    let x : None ≡ Some f.1 = c.in_default-at.ensures ∙ ap (λ cs. slice_get cs c.in-Some-Fails.column) columns ∙ f.2 in
    cc

pub cause-requires : goal.cause-requires
cause-requires g c =
    let f = fails_at _ _ _ c.in-Some-Fails.column c.in-Some-Fails.ensures.exact c.in-Some-Fails.field-0-is in
    (f.1.name, f.0, f.3)

pub returns-in_ok-cells-in-Some-Whole : goal.returns-in_ok-cells-in-Some-Whole
returns-in_ok-cells-in-Some-Whole g c = λ row rest is.
    sym (first_row (table_of c.args.scope.now) c.args.scope.now.request c.args.self.now.flight c.in-Some.row.now row rest (c.in-Some.ensures.row (table_of c.args.scope.now) c.args.scope.now.request c.requires.form.flight) is) ∙ c.in_ok-cells-in-Some-Whole.ensures

pub returns-in_ok-column-in-Some-Fails : goal.returns-in_ok-column-in-Some-Fails
returns-in_ok-column-in-Some-Fails g c = λ row rest is.
    let f = fails_at _ _ _ c.in-Some-Fails.column c.in-Some-Fails.ensures.exact c.in-Some-Fails.field-0-is in
    let columns = c.columns.ensures ∙ ap (λ p. p.columns) c.plan.ensures in
    let x : Some c.in-Some-at.found.now ≡ Some f.1 = c.in-Some-at.ensures ∙ ap (λ cs. slice_get cs c.in-Some-Fails.column) columns ∙ f.2 in
    let name : f.1.name ≡ c.in_ok-column-in-Some-Fails.column = (let y : f.1 ≡ c.in-Some-at.found.now = cc in ap (λ k. k.name) y) ∙ sym c.in_ok-column-in-Some-Fails.ensures in
    let why : f.0 ≡ c.in_ok-cause-in-Some-Fails.cause = sym (c.cause.ensures f.1.name f.0 f.3) ∙ sym c.in_ok-cause-in-Some-Fails.ensures in
    sym (first_row (table_of c.args.scope.now) c.args.scope.now.request c.args.self.now.flight c.in-Some.row.now row rest (c.in-Some.ensures.row (table_of c.args.scope.now) c.args.scope.now.request c.requires.form.flight) is)
    ∙ f.3 ∙ ap (λ n. Some (Broken n f.0)) name ∙ ap (λ w. Some (Broken c.in_ok-column-in-Some-Fails.column w)) why
