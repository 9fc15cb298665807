-- The rows in flight after a piece of a function's call.
use Rattle.std.proofs.Common.{◌≡◌, ◌≤◌, ◌++◌, ◌∷◌, [], List, length, map, Bool, true, false, ℕ, Option, Some, None, if◌then◌else◌, refl, sym, ap, subst, ◌∙◌}
use Rattle.std.proofs.lemmas.List.{length-map}
use Rattle.sp_model.specs.declared.call.Piece.{Piece}
use Rattle.sp_model.specs.declared.outcome.Outcome.{Outcome}
use Rattle.sp_model.specs.declared.scan.Seat.{Seat}
use Rattle.hydrate_graph.specs.Graphs.{Graph}
use Rattle.row_flight.specs.Flying.{InFlight, Seated, rows_in, rows_of, IsOf, heard_at, hears_at, is_at}
use Rattle.row_flight.specs.Rows.{row_hears, settled_so}
use Rattle.scan_laws.specs.Scans.{items_of}
use Rattle.scan_core.proofs.Moving.{form_kept}
use Rattle.scan_core.specs.Courses.{table_of, IsCourse}
use Rattle.scan_core.specs.declared.course.Course.{Course}
use Rattle.scan_core.specs.declared.scope.ScanScope.{ScanScope}

settled_item : (g : Graph) (number : ℕ) (o : Option Outcome) → (settled_so g number o).item ≡ g.item
settled_item g number None = refl
settled_item g number (Some o) = refl

heard_item : (seat : Seat) (p : Piece) (tick : ℕ) (s : Seated) (b : Bool) → (if b then record { key = s.key; row = row_hears s.row seat.function p tick } else s).row.graph.item ≡ s.row.graph.item
heard_item seat p tick s true = settled_item s.row.graph seat.function _
heard_item seat p tick s false = refl

pub heard_items : (seat : Seat) (p : Piece) (tick : ℕ) (rows : List Seated) → items_of (rows_in (map (hears_at seat p tick) rows)) ≡ items_of (rows_in rows)
heard_items seat p tick [] = refl
heard_items seat p tick (s ∷ rows) = ap (λ x. x ∷ items_of (rows_in (map (hears_at seat p tick) rows))) (heard_item seat p tick s (is_at s.key seat)) ∙ ap (λ xs. s.row.graph.item ∷ xs) (heard_items seat p tick rows)

pub heard_rows_form : {X : Type 0} (scope : ScanScope) (s t : Course X) (seat : Seat) (p : Piece) (tick : ℕ) → IsCourse scope s → t.flight ≡ heard_at s.flight seat p tick → t.parents ≡ s.parents → t.items ≡ s.items → t.before ≡ s.before → t.walk ≡ s.walk → t.waiting ≡ s.waiting
    → IsCourse scope t
heard_rows_form scope s t seat p tick form flight parents items before walk waiting =
    form_kept scope s t
    (ap (λ f. items_of (rows_of f) ++ t.waiting.items) flight ∙ ap (λ xs. xs ++ t.waiting.items) (heard_items seat p tick s.flight.rows) ∙ ap (λ w. items_of (rows_of s.flight) ++ w.items) waiting)
    parents items before walk
    (subst (λ (f : InFlight). IsOf (table_of scope) scope.request f) (sym flight) (record { name = form.flight.name; functions = form.flight.functions; rules = form.flight.rules; columns = form.flight.columns }))
    (ap (λ f. f.window) flight ∙ form.window)
    (subst (λ (n : ℕ). n ≤ scope.window) (sym (ap (λ f. length f.rows) flight ∙ length-map s.flight.rows (hears_at seat p tick))) form.room)
    form
