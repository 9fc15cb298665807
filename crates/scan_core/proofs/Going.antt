-- Rows in flight that stay, leave and come.
use Rattle.std.proofs.Common.{◌≡◌, ◌⊎◌, inl, inr, List, [], ◌∷◌, ◌++◌, refl, sym, ap, subst, ◌∙◌}
use Rattle.sp_value.specs.declared.cell.Cell.{Cell}
use Rattle.row_flight.specs.Flying.{Seated, Puts}
use Rattle.row_flight.specs.Rows.{begun}
use Rattle.scan_core.specs.Going.{IsIn, GoesOn}
use Rattle.scan_core.specs.declared.course.Course.{Course}

-- one of the last list and one more
pub in_push : {X : Type 0} (x y : X) (xs : List X) → IsIn x (xs ++ y ∷ []) → IsIn x xs ⊎ (x ≡ y)
in_push x y [] (inl e) = inr e
in_push x y [] (inr none) = absurd none
in_push x y (z ∷ zs) (inl e) = inl (inl e)
in_push x y (z ∷ zs) (inr more) = by (in_push x y zs more)
  where
    by : IsIn x zs ⊎ (x ≡ y) → IsIn x (z ∷ zs) ⊎ (x ≡ y)
    by (inl there) = inl (inr there)
    by (inr e) = inr e

-- neither the rows nor the items that wait changed
pub goes_same : {X : Type 0} (old new : Course X) → new.flight ≡ old.flight → new.waiting.items ≡ old.waiting.items → GoesOn old new
goes_same old new flight waiting = record {
  plan = ap (λ f. f.plan) flight;
  frame = ap (λ f. f.frame) flight;
  rows = λ s there. inl (subst (λ f. IsIn s f.rows) flight there);
  waiting = λ x there. subst (IsIn x) waiting there;
}

pub goes_kept : {X : Type 0} (old new : Course X) → (new.flight ≡ old.flight) × (new.waiting ≡ old.waiting) → GoesOn old new
goes_kept old new kept = goes_same old new kept.0 (ap (λ w. w.items) kept.1)

-- the first row left
pub goes_past : {X : Type 0} (old new : Course X) (s : Seated) → old.flight ≡ record new.flight { rows = s ∷ new.flight.rows } → new.waiting.items ≡ old.waiting.items → GoesOn old new
goes_past old new s flight waiting = record {
  plan = sym (ap (λ f. f.plan) flight);
  frame = sym (ap (λ f. f.frame) flight);
  rows = λ t there. inl (subst (λ f. IsIn t f.rows) (sym flight) (inr there));
  waiting = λ x there. subst (IsIn x) waiting there;
}

-- the row of the first item that waited came
pub goes_put : {X : Type 0} (old new : Course X) (item : Cell) (waiting : List Cell) → old.waiting.items ≡ item ∷ waiting → new.waiting.items ≡ waiting → Puts old.flight new.flight item → GoesOn old new
goes_put old new item waiting first rest puts = record {
  plan = ap (λ f. f.plan) puts.is;
  frame = ap (λ f. f.frame) puts.is;
  rows = λ s there. by s (in_push s _ old.flight.rows (subst (λ f. IsIn s f.rows) puts.is there));
  waiting = λ x there. subst (IsIn x) (sym first) (inr (subst (IsIn x) rest there));
}
  where
    by : (s : Seated) → IsIn s old.flight.rows ⊎ (s ≡ record { key = puts.key; row = begun old.flight.plan item }) → IsIn s old.flight.rows ⊎ ((x : Cell) × IsIn x old.waiting.items × (s.row ≡ begun old.flight.plan x))
    by s (inl there) = inl there
    by s (inr e) = inr (item, subst (IsIn item) (sym first) (inl refl), ap (λ t. t.row) e)

-- one after the other
pub goes_then : {X : Type 0} (old mid new : Course X) → GoesOn old mid → GoesOn mid new → GoesOn old new
goes_then old mid new first second = record {
  plan = second.plan ∙ first.plan;
  frame = second.frame ∙ first.frame;
  rows = λ s there. by s (second.rows s there);
  waiting = λ x there. first.waiting x (second.waiting x there);
}
  where
    by : (s : Seated) → IsIn s mid.flight.rows ⊎ ((x : Cell) × IsIn x mid.waiting.items × (s.row ≡ begun mid.flight.plan x)) → IsIn s old.flight.rows ⊎ ((x : Cell) × IsIn x old.waiting.items × (s.row ≡ begun old.flight.plan x))
    by s (inl there) = first.rows s there
    by s (inr fresh) = inr (fresh.0, first.waiting fresh.0 fresh.1, fresh.2 ∙ ap (λ p. begun p fresh.0) first.plan)
