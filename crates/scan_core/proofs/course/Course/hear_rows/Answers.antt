use Rattle.std.proofs.Common.{◌≡◌, rules, refl, sym, ap, subst, ◌∙◌}
use Rattle.sp_model.specs.declared.call.Asked.TheVariants as asks
use Rattle.row_flight.specs.Flying.{IsAwaited, heard_at}
use Rattle.row_flight.specs.Hearing.{IsPieceOfSeen}
use Rattle.scan_core.proofs.HeardRows.{heard_rows_form}
use Rattle.scan_core.specs.Courses.{table_of}
use Rattle.scan_core.proofs.course.Course.hear_rows.Goals as goal

pub hear-requires-clause-open : goal.hear-requires-clause-open
hear-requires-clause-open g c = let a = c.in-Ok-true.ensures.0 (search rules) in (a.2.row, a.2.sits, a.2.awaits.0)

pub returns-in-Ok-clause-used : goal.returns-in-Ok-clause-used
returns-in-Ok-clause-used g c = λ e.
    let a = c.in-Ok-true.ensures.0 (search rules) in
    let v : c.into_value.result ≡ c.args.piece.1 = c.into_value.ensures.value in
    let flight = c.args.self.now.flight in (
      a,
      ap (λ f. record c.args.self.now { flight = f }) (c.in-Ok.ensures.ok ∙ ap (λ p. heard_at flight c.args.seat p c.args.tick) v),
      λ answers key asked apart agree hear piece.
          let one : asks.Call a.0 ≡ asks.Call key = sym a.1 ∙ asked in
          let same : a.0 ≡ key = cc in
          c.in-Ok.ensures.keeps (table_of c.args.scope.now) c.args.scope.now.request answers key c.requires.form.flight apart agree hear
          (subst (λ p. IsAwaited flight c.args.seat key p) (sym v) (subst (λ k. IsAwaited flight c.args.seat k c.args.piece.1) same a.2))
          (subst (λ p. IsPieceOfSeen (answers key.call key.attempt) p) (sym v) piece),
    )

pub returns-in-Ok-clause-form : goal.returns-in-Ok-clause-form
returns-in-Ok-clause-form g c =
    let v : c.into_value.result ≡ c.args.piece.1 = c.into_value.ensures.value in
    heard_rows_form c.args.scope.now c.args.self.now (record c.args.self.now { flight = c.hear.new.self }) c.args.seat c.args.piece.1 c.args.tick c.requires.form
    (c.in-Ok.ensures.ok ∙ ap (λ p. heard_at c.args.self.now.flight c.args.seat p c.args.tick) v) refl refl refl refl refl
