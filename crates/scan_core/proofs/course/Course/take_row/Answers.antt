use Rattle.std.proofs.Common.{ℕ, sym, ◌∙◌, ap, subst, Some, List}
use Rattle.sp_model.specs.Walk.{with_row}
use Rattle.sp_model.specs.declared.declaration.ColumnDecl.{ColumnDecl}
use Rattle.sp_model.specs.declared.outcome.Row.TheVariants.{Whole}
use Rattle.sp_model.specs.declared.outcome.WalkState.{WalkState}
use Rattle.scan_core.proofs.Moving.{past_state, past_form, rest_rows, rest_of, rest_room, stands_so}
use Rattle.scan_core.specs.Calls.{passed_items}
use Rattle.scan_core.specs.Courses.{state_of, went_on, end_view, Grows}
use Rattle.scan_laws.specs.Steps.{past}
use Rattle.scan_core.proofs.Going.{goes_past}
use Rattle.scan_core.proofs.course.Course.take_row.Goals as goal

pub returns-clause-state : goal.returns-clause-state
returns-clause-state g c =
    let s = c.args.self.now in
    let t = record c.pass_first.new.self { end = c.end_if.result } in
    let first = c.requires.first in
    let grows = subst (λ (w : WalkState). Grows s.walk w) (sym c.pass_first.ensures.walk) c.in-Ok.ensures.grows in
    let items = c.pass_first.ensures.items ∙ ap (λ (n : ℕ). passed_items s.before s.items (record { rows = n; items = s.walk.items; steady = s.walk.steady })) c.len.ensures in
    let f = c.pass_first.ensures.flight in
    let rest = rest_rows s.flight t.flight first.row first.rows f.0 f.1 first.first in
    let state = past_state c.args.scope.now s t first.row first.rows c.requires.form first.first rest (ap (λ w. w.items) c.pass_first.ensures.waiting) grows c.pass_first.ensures.parents c.pass_first.ensures.before items in
    let columns = c.columns.ensures ∙ ap (λ p. p.columns) c.plan.ensures ∙ c.requires.form.flight.columns in
    record {
      row = first.row;
      rows = first.rows;
      first = first.first;
      seen = Whole c.args.cells;
      known = c.requires.seen first.row first.rows first.first;
      stands = stands_so (state_of c.args.scope.now s) (state_of c.args.scope.now t) first.rows _ c.in-Ok.full t.walk
          (ap (λ (cs : List ColumnDecl). with_row c.args.scope.now.request.conditions cs c.args.scope.now.request.limit (Some (Whole c.args.cells)) s.walk) (sym columns) ∙ c.in-Ok.ensures.ok ∙ ap (went_on c.in-Ok.full) (sym c.pass_first.ensures.walk))
          (state ∙ ap (λ e. past (state_of c.args.scope.now s) first.rows t.walk (end_view t.walk e)) c.end_if.ensures);
    }

pub returns-clause-form : goal.returns-clause-form
returns-clause-form g c =
    let s = c.args.self.now in
    let t = record c.pass_first.new.self { end = c.end_if.result } in
    let first = c.requires.first in
    let grows = subst (λ (w : WalkState). Grows s.walk w) (sym c.pass_first.ensures.walk) c.in-Ok.ensures.grows in
    let items = c.pass_first.ensures.items ∙ ap (λ (n : ℕ). passed_items s.before s.items (record { rows = n; items = s.walk.items; steady = s.walk.steady })) c.len.ensures in
    let f = c.pass_first.ensures.flight in
    let rest = rest_rows s.flight t.flight first.row first.rows f.0 f.1 first.first in
    past_form c.args.scope.now s t first.row first.rows c.requires.form first.first rest (ap (λ w. w.items) c.pass_first.ensures.waiting) grows c.pass_first.ensures.parents c.pass_first.ensures.before items
    (rest_of c.args.scope.now s.flight t.flight f.0 f.1 c.requires.form.flight) (ap (λ x. x.window) (sym f.1) ∙ c.requires.form.window) (rest_room s.flight t.flight f.0 c.args.scope.now.window f.1 c.requires.form.room)

pub returns-clause-goes : goal.returns-clause-goes
returns-clause-goes g c =
    let f = c.pass_first.ensures.flight in
    goes_past c.args.self.now (record c.pass_first.new.self { end = c.end_if.result }) f.0 f.1 (ap (λ w. w.items) c.pass_first.ensures.waiting)
