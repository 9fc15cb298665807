use Rattle.std.proofs.Common.{◌≡◌, sym, ap, subst, ◌∙◌}
use Rattle.scan_core.proofs.Seats.{unchanged}
use Rattle.scan_core.specs.Courses.{state_of}
use Rattle.scan_core.specs.Hearing.{AwaitsBy, HearsBy, IsUnchanged, seat_of}
use Rattle.scan_core.specs.declared.seat.SeatOf.{SeatOf}
use Rattle.scan_core.specs.declared.seat.SeatOf.TheVariants.{Items, Parents, Row}
use Rattle.scan_core.proofs.course.Course.hear.Goals as goal

pub returns-in-Items-clause-used : goal.returns-in-Items-clause-used
returns-in-Items-clause-used g c = λ e.
    let kind : seat_of c.args.scope.now.request.access c.args.seat.function ≡ Items = sym c.seat_of.ensures ∙ c.in-Items.is in
    let u = c.hear_items_at.ensures.used e in
    record {
      awaited = subst (λ (k : SeatOf). AwaitsBy k c.args.scope.now c.args.self.now c.args.seat c.args.piece.0 c.args.piece.1) (sym kind) u.0;
      heard = subst (λ (k : SeatOf). HearsBy k c.args.scope.now c.args.self.now c.args.seat c.args.piece.0 c.args.piece.1 c.args.tick c.hear_items_at.new.self) (sym kind) (u.1, u.2);
    }

pub returns-in-Items-clause-late : goal.returns-in-Items-clause-late
returns-in-Items-clause-late g c = λ e.
    let kind : seat_of c.args.scope.now.request.access c.args.seat.function ≡ Items = sym c.seat_of.ensures ∙ c.in-Items.is in
    let l = c.hear_items_at.ensures.late e in
    (λ w. l.0 (subst (λ (k : SeatOf). AwaitsBy k c.args.scope.now c.args.self.now c.args.seat c.args.piece.0 c.args.piece.1) kind w), l.1)

pub returns-in-Parents-clause-used : goal.returns-in-Parents-clause-used
returns-in-Parents-clause-used g c = λ e.
    let kind : seat_of c.args.scope.now.request.access c.args.seat.function ≡ Parents = sym c.seat_of.ensures ∙ c.in-Parents.is in
    let u = c.hear_parents_at.ensures.used e in
    record {
      awaited = subst (λ (k : SeatOf). AwaitsBy k c.args.scope.now c.args.self.now c.args.seat c.args.piece.0 c.args.piece.1) (sym kind) u.0;
      heard = subst (λ (k : SeatOf). HearsBy k c.args.scope.now c.args.self.now c.args.seat c.args.piece.0 c.args.piece.1 c.args.tick c.hear_parents_at.new.self) (sym kind) (u.1, u.2);
    }

pub returns-in-Parents-clause-late : goal.returns-in-Parents-clause-late
returns-in-Parents-clause-late g c = λ e.
    let kind : seat_of c.args.scope.now.request.access c.args.seat.function ≡ Parents = sym c.seat_of.ensures ∙ c.in-Parents.is in
    let l = c.hear_parents_at.ensures.late e in
    (λ w. l.0 (subst (λ (k : SeatOf). AwaitsBy k c.args.scope.now c.args.self.now c.args.seat c.args.piece.0 c.args.piece.1) kind w), l.1)

pub returns-in-Row-clause-used : goal.returns-in-Row-clause-used
returns-in-Row-clause-used g c = λ e.
    let kind : seat_of c.args.scope.now.request.access c.args.seat.function ≡ Row = sym c.seat_of.ensures ∙ c.in-Row.is in
    let u = c.hear_rows.ensures.used e in
    record {
      awaited = subst (λ (k : SeatOf). AwaitsBy k c.args.scope.now c.args.self.now c.args.seat c.args.piece.0 c.args.piece.1) (sym kind) u.0;
      heard = subst (λ (k : SeatOf). HearsBy k c.args.scope.now c.args.self.now c.args.seat c.args.piece.0 c.args.piece.1 c.args.tick c.hear_rows.new.self) (sym kind) (u.1, u.2);
    }

pub returns-in-Row-clause-late : goal.returns-in-Row-clause-late
returns-in-Row-clause-late g c = λ e.
    let kind : seat_of c.args.scope.now.request.access c.args.seat.function ≡ Row = sym c.seat_of.ensures ∙ c.in-Row.is in
    let l = c.hear_rows.ensures.late e in
    (λ w. l (subst (λ (k : SeatOf). AwaitsBy k c.args.scope.now c.args.self.now c.args.seat c.args.piece.0 c.args.piece.1) kind w), subst (λ z. IsUnchanged c.args.self.now z) (sym (c.hear_rows.ensures.kept (λ u. let bad = sym e ∙ u in cc))) (unchanged c.args.self.now))

pub returns-in-Row-clause-kept : goal.returns-in-Row-clause-kept
returns-in-Row-clause-kept g c = λ n.
    let k = c.hear_rows.ensures.kept n in
    record { state = ap (state_of c.args.scope.now) k; flight = ap (λ z. z.flight) k; end = ap (λ z. z.end) k }
