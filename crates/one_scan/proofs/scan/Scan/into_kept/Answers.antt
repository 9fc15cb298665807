use Rattle.std.proofs.Common.{Some, sym, ap, subst, ◌∙◌}
use Rattle.sp_model.specs.declared.outcome.ScanValue.TheVariants as value
use Rattle.sp_model.specs.declared.scan.Mark.TheVariants.{Fresh}
use Rattle.sp_world.specs.Kept.{IsKeptForm, IsKeptValue}
use Rattle.one_scan.proofs.Truth.{rows_are, kept_form, kept_told}
use Rattle.one_scan.proofs.scan.Scan.into_kept.Goals as goal

pub of-requires-clause-form : goal.of-requires-clause-form
of-requires-clause-form g c =
    let s = c.self.inside in
    let is = c.kept_scan.ensures ∙ ap (λ b. record { note = record { request = s.scope.request; asked = s.asked; at = s.asked; version = s.version; mark = Fresh }; rows = s.course.walk.rows; complete = b }) c.is_whole-complete.ensures in
    subst IsKeptForm (sym is) (kept_form g.W.World.book s.scope s.course g.W.World.tells s.version s.asked c.self.invariant.0)

pub of-requires-clause-told : goal.of-requires-clause-told
of-requires-clause-told g c = λ t.
    let s = c.self.inside in
    let are = rw (← c.self.view_is) at c.requires.rows in
    let steady = rw (← c.self.view_is) at c.requires.steady in
    let is = c.kept_scan.ensures ∙ ap (λ b. record { note = record { request = s.scope.request; asked = s.asked; at = s.asked; version = s.version; mark = Fresh }; rows = s.course.walk.rows; complete = b }) c.is_whole-complete.ensures in
    subst (IsKeptValue g.W.World.book) (sym is) (kept_told g.W.World.book s.scope s.course g.W.World.tells s.version s.asked c.self.invariant.0 are steady t)

pub returns : goal.returns
returns g c =
    let s = c.self.inside in
    let are = rw (← c.self.view_is) at c.requires.rows in
    let is = c.of.ensures ∙ c.kept_scan.ensures ∙ ap (λ b. record { note = record { request = s.scope.request; asked = s.asked; at = s.asked; version = s.version; mark = Fresh }; rows = s.course.walk.rows; complete = b }) c.is_whole-complete.ensures in
    rw (← c.self.view_is) (ap (λ k. k.note) is, rows_are g.W.World.book s.scope s.course s.course.end are ∙ ap (λ k. Some (value.Rows k.rows)) (sym is), ap (λ k. k.complete) is)
