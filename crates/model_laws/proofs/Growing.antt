-- A walk keeps the rows that it has, and stays unsteady.
use Rattle.std.proofs.Common.{◌≡◌, ℕ, zero, suc, nat_lt, true, false, ◌&&◌, List, [], ◌∷◌, ◌++◌, length, Option, Some, None, if◌then◌else◌, refl, sym, ap, ◌∙◌}
use Rattle.std.proofs.lemmas.Bool.{false≢true}
use Rattle.std.proofs.lemmas.List.{append-nil, append_assoc}
use Rattle.sp_value.specs.declared.cell.Cell.{Cell}
use Rattle.sp_model.specs.Settling.{Seen, Verdict, Accept, Again, Refuse, Open, judged}
use Rattle.sp_model.specs.Walk.{and_then, meets, is_reached, with_row_kept, with_row, visit_all, Source, accepted, ended, unsteady, walk_in}
use Rattle.sp_model.specs.declared.call.Condition.{Condition}
use Rattle.sp_model.specs.declared.declaration.ColumnDecl.{ColumnDecl}
use Rattle.sp_model.specs.declared.outcome.Row.{Row}
use Rattle.sp_model.specs.declared.outcome.Row.TheVariants.{Whole, Broken}
use Rattle.sp_model.specs.declared.outcome.Walk.{Walk}
use Rattle.sp_model.specs.declared.outcome.Walk.TheVariants.{Going, Full, Failed, Waiting}
use Rattle.sp_model.specs.declared.outcome.WalkState.{WalkState}
use Rattle.sp_model.specs.declared.scan.Cause.TheVariants.{TooMany}

-- the rows of the first state, and more; and it was steady where the second is
pub record From (s t : WalkState) : Type 0 where
  pub more : List (List Cell)
  pub rows : t.rows ≡ s.rows ++ more
  pub steady : t.steady ≡ true → s.steady ≡ true

pub from_same : (s : WalkState) → From s s
from_same s = record { more = []; rows = sym (append-nil s.rows); steady = λ h. h }

from_trans : (s t u : WalkState) → From s t → From t u → From s u
from_trans s t u f g = record {
  more = f.more ++ g.more;
  rows = g.rows ∙ ap (λ rows. rows ++ g.more) f.rows ∙ append_assoc s.rows f.more g.more;
  steady = λ h. f.steady (g.steady h);
}

abbrev pub Grows : WalkState → Walk → Type 0
Grows s (Going t) = From s t
Grows s (Full t) = From s t
Grows s (Failed row column cause) = Unit {0}
Grows s Waiting = Unit {0}

pub grows_more : (s t : WalkState) (w : Walk) → From s t → Grows t w → Grows s w
grows_more s t (Going u) f g = from_trans s t u f g
grows_more s t (Full u) f g = from_trans s t u f g
grows_more s t (Failed row column cause) f g = tt
grows_more s t Waiting f g = tt

grows_then : (s : WalkState) (w : Walk) (k : WalkState → Walk) → Grows s w → ((t : WalkState) → From s t → Grows s (k t)) → Grows s (and_then w k)
grows_then s (Going t) k g h = h t g
grows_then s (Full t) k g h = g
grows_then s (Failed row column cause) k g h = tt
grows_then s Waiting k g h = tt

pub visits_grow : (visit : Cell → WalkState → Walk) → ((item : Cell) (s : WalkState) → Grows s (visit item s)) → (items : List Cell) (s : WalkState) → Grows s (visit_all visit items s)
visits_grow visit g [] s = from_same s
visits_grow visit g (item ∷ items) s =
    grows_then s (visit item s) (λ t. visit_all visit items t) (g item s) (λ t f. grows_more s t (visit_all visit items t) f (visits_grow visit g items t))

pub accepted_grows : (source : Source) (count : ℕ) (s t : WalkState) → From s t → Grows s (accepted source count t)
accepted_grows source count s t f =
    elim (source.single && nat_lt 1 count) as (λ b. Grows s (if b then Failed (suc t.items) None (TooMany source.function count) else Going t)) [ true ↦ tt | false ↦ f ]

pub ended_grows : (source : Source) (attempt : ℕ) (v : Verdict) (count : ℕ) (s t : WalkState) (again : Walk) → From s t → Grows s again → Grows s (ended source attempt v count t again)
ended_grows source attempt Accept count s t again f g = accepted_grows source count s t f
ended_grows source attempt Again count s t again f g = g
ended_grows source attempt (Refuse text) count s t again f g = tt
ended_grows source attempt Open count s t again f g = tt

pub from_unsteady : (s : WalkState) → From s (unsteady s)
from_unsteady s = record { more = []; rows = sym (append-nil s.rows); steady = λ h. absurd (false≢true h) }

pub walk_grows : (visit : Cell → WalkState → Walk) → ((item : Cell) (s : WalkState) → Grows s (visit item s)) → (source : Source) (replies : ℕ → Seen) (n attempt : ℕ) (s : WalkState)
    → Grows s (walk_in n visit source replies attempt s)
walk_grows visit g source replies zero attempt s = tt
walk_grows visit g source replies (suc n) attempt s =
    let again : Walk = walk_in n visit source replies (suc attempt) (unsteady s) in
    grows_then s (visit_all visit (replies attempt).items s) (λ t. ended source attempt (judged source.rule attempt (replies attempt).ending) (length (replies attempt).items) t again)
    (visits_grow visit g (replies attempt).items s)
    (λ t f. ended_grows source attempt (judged source.rule attempt (replies attempt).ending) (length (replies attempt).items) s t again f
    (grows_more s (unsteady s) again (from_unsteady s) (walk_grows visit g source replies n (suc attempt) (unsteady s))))

kept_grows : (limit : Option ℕ) (cells : List Cell) (s : WalkState) → Grows s (with_row_kept limit (s.rows ++ cells ∷ []) s)
kept_grows limit cells s =
    let t : WalkState = record { rows = s.rows ++ cells ∷ []; items = suc s.items; steady = s.steady } in
    let f : From s t = record { more = cells ∷ []; rows = refl; steady = λ h. h } in
    elim (is_reached limit (length (s.rows ++ cells ∷ []))) as (λ b. Grows s (if b then Full t else Going t)) [ true ↦ f | false ↦ f ]

pub row_grows : (conditions : List Condition) (columns : List ColumnDecl) (limit : Option ℕ) (row : Option Row) (s : WalkState) → Grows s (with_row conditions columns limit row s)
row_grows conditions columns limit None s = tt
row_grows conditions columns limit (Some (Broken column cause)) s = tt
row_grows conditions columns limit (Some (Whole cells)) s =
    let t : WalkState = record { rows = s.rows; items = suc s.items; steady = s.steady } in
    let f : From s t = record { more = []; rows = sym (append-nil s.rows); steady = λ h. h } in
    elim (meets conditions columns cells) as (λ b. Grows s (if b then with_row_kept limit (s.rows ++ cells ∷ []) s else Going t)) [ true ↦ kept_grows limit cells s | false ↦ f ]

-- a walk that isn't steady where it ended in rows
abbrev pub Loose : Walk → Type 0
Loose (Going t) = t.steady ≡ true → ⊥
Loose (Full t) = t.steady ≡ true → ⊥
Loose (Failed row column cause) = Unit {0}
Loose Waiting = Unit {0}

pub grows_loose : (s : WalkState) (w : Walk) → s.steady ≡ false → Grows s w → Loose w
grows_loose s (Going t) e g = λ h. false≢true (sym e ∙ g.steady h)
grows_loose s (Full t) e g = λ h. false≢true (sym e ∙ g.steady h)
grows_loose s (Failed row column cause) e g = tt
grows_loose s Waiting e g = tt
