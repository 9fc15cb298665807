-- A row after one function's attempt or outcome was replaced.
use Rattle.std.proofs.Common.{◌≡◌, ℕ, Bool, true, false, List, get_or, set, Option, Some, None, if◌then◌else◌, bytes_eq, refl, sym, ap, ◌∙◌}
use Rattle.std.specs.Prelude.{slice_get}
use Rattle.std.proofs.lemmas.List.{get_or-set_same, get_or-set_other}
use Rattle.std.proofs.lemmas.Slice.Eq.{bytes_eq-Decides}
use Rattle.sp_model.proofs.Lawful.{found_name}
use Rattle.sp_model.specs.declared.declaration.FunctionDecl.{FunctionDecl}
use Rattle.sp_model.specs.declared.outcome.Outcome.{Outcome}
use Rattle.hydrate_graph.proofs.Numbering.{found_at}
use Rattle.hydrate_graph.specs.Graphs.{known}
use Rattle.hydrate_graph.specs.Numbers.{number_of}
use Rattle.hydrate_graph.specs.Plans.{AreApart}
use Rattle.scan_laws.specs.Steps.{put}
use Rattle.row_flight.specs.Attempts.{fresh}
use Rattle.row_flight.specs.Rows.{attempt_in, with_attempt, slot_of, attempt_of, IsPlaced}
use Rattle.row_flight.specs.declared.attempt.Attempt.{Attempt}
use Rattle.row_flight.specs.declared.row.RowCalls.{RowCalls}

-- what stands in the slots of other functions
pub at_other : (slots : List (Option ℕ)) (attempts : List Attempt) (k slot : ℕ) (a : Attempt) → AreApart slots → get_or slots k None ≡ Some slot → (j : ℕ) → (j ≡ k → ⊥) → (t : Option ℕ) → get_or slots j None ≡ t
    → attempt_in (set attempts slot a) t ≡ attempt_in attempts t
at_other slots attempts k slot a apart at j other None is = refl
at_other slots attempts k slot a apart at j other (Some s) is = get_or-set_other attempts slot s a fresh (λ e. other (apart j k slot (is ∙ ap (λ n. Some n) e) at))

module _ (row : RowCalls) (f : FunctionDecl) (declared : slice_get row.graph.plan.functions (number_of row.graph.plan.functions f.name) ≡ Some f) (slot : ℕ) (placed : IsPlaced row (number_of row.graph.plan.functions f.name) slot) where
  abbrev numbered : List ℕ → ℕ
  numbered name = number_of row.graph.plan.functions name

  same_number : (name : List ℕ) → bytes_eq f.name name ≡ true → numbered name ≡ numbered f.name
  same_number name e = ap numbered (sym ((bytes_eq-Decides f.name name).0 e))

  other_number : (name : List ℕ) → bytes_eq f.name name ≡ false → numbered name ≡ numbered f.name → ⊥
  other_number name e same =
      let found = found_at name row.graph.plan.functions ∙ ap (slice_get row.graph.plan.functions) same ∙ declared in
      let yes : bytes_eq f.name name ≡ true = (bytes_eq-Decides f.name name).1 (found_name name row.graph.plan.functions f found) in
      let bad : true ≡ false = sym yes ∙ e in
      cc

  module _ (a : Attempt) where
    abbrev after : List ℕ → Attempt
    after name = attempt_in (with_attempt row.attempts (slot_of row.graph.plan (numbered f.name)) a) (slot_of row.graph.plan (numbered name))

    put_is : with_attempt row.attempts (slot_of row.graph.plan (numbered f.name)) a ≡ set row.attempts slot a
    put_is = ap (λ t. with_attempt row.attempts t a) placed.at

    after_here : (name : List ℕ) → numbered name ≡ numbered f.name → after name ≡ a
    after_here name e =
        ap (λ xs. attempt_in xs (slot_of row.graph.plan (numbered name))) put_is
        ∙ ap (attempt_in (set row.attempts slot a)) (ap (slot_of row.graph.plan) e ∙ placed.at)
        ∙ get_or-set_same row.attempts slot a fresh placed.within

    after_other : (name : List ℕ) → (numbered name ≡ numbered f.name → ⊥) → after name ≡ attempt_of row (numbered name)
    after_other name other =
        ap (λ xs. attempt_in xs (slot_of row.graph.plan (numbered name))) put_is
        ∙ at_other row.graph.plan.slots row.attempts (numbered f.name) slot a placed.apart placed.at (numbered name) other (slot_of row.graph.plan (numbered name)) refl

    -- what is read of each function's attempt: here it is replaced
    pub read_put : {X : Type 0} (read : Attempt → X) (x : X) → read a ≡ x → (name : List ℕ) → read (after name) ≡ put (λ n. read (attempt_of row (numbered n))) f.name x name
    read_put read x is name = by (bytes_eq f.name name) refl
      where
        by : (b : Bool) → bytes_eq f.name name ≡ b → read (after name) ≡ (if b then x else read (attempt_of row (numbered name)))
        by true e = ap read (after_here name (same_number name e)) ∙ is
        by false e = ap read (after_other name (other_number name e))

    -- and here it stays
    pub read_keeps : {X : Type 0} (read : Attempt → X) → read a ≡ read (attempt_of row (numbered f.name)) → (name : List ℕ) → read (after name) ≡ read (attempt_of row (numbered name))
    read_keeps read is name = by (bytes_eq f.name name) refl
      where
        by : (b : Bool) → bytes_eq f.name name ≡ b → read (after name) ≡ read (attempt_of row (numbered name))
        by true e = ap read (after_here name (same_number name e)) ∙ is ∙ ap (λ n. read (attempt_of row n)) (sym (same_number name e))
        by false e = ap read (after_other name (other_number name e))

  -- what is known of each function after its outcome is settled
  pub known_put : (o : Outcome) (name : List ℕ) → get_or (set row.graph.settled (numbered f.name) (Some o)) (numbered name) None ≡ put (known row.graph) f.name (Some o) name
  known_put o name = by (bytes_eq f.name name) refl
    where
      by : (b : Bool) → bytes_eq f.name name ≡ b → get_or (set row.graph.settled (numbered f.name) (Some o)) (numbered name) None ≡ (if b then Some o else known row.graph name)
      by true e = ap (λ n. get_or (set row.graph.settled (numbered f.name) (Some o)) n None) (same_number name e) ∙ get_or-set_same row.graph.settled (numbered f.name) (Some o) None placed.settled
      by false e = get_or-set_other row.graph.settled (numbered f.name) (numbered name) (Some o) None (other_number name e)
