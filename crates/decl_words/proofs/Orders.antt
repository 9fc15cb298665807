-- Where no function remains there is an order in which each comes after those that it depends on.
use Rattle.std.proofs.Common.{◌≡◌, ℕ, zero, suc, Bool, true, false, not, ◌||◌, ◌&&◌, List, [], ◌∷◌, ◌++◌, length, filter, bytes_eq, refl, sym, ap, ◌∙◌, inl, inr, true≢false, IsPermutation}
use Rattle.std.specs.List.{list_any, list_all}
use Rattle.std.proofs.Math.Bool.{or-true}
use Rattle.std.proofs.lemmas.List.Sorted.{IsPermutation-append_right, IsPermutation-filter_both, IsPermutation-refl, IsPermutation-sym, IsPermutation-trans}
use Rattle.sp_model.specs.declared.declaration.FunctionDecl.{FunctionDecl}
use Rattle.sp_model.specs.Hydration.{names_of_functions}
use Rattle.decl_words.specs.Leftover.{waits_for, still_waiting, after_rounds, leftover}
use Rattle.sp_model.specs.Names.{has_name}
use Rattle.decl_words.specs.Order.{comes_after, CanRun}
use Rattle.decl_words.specs.Refusals.{depends_on_unknown}
use Rattle.decl_words.proofs.Functions.{named, has_name-In, dependency-known}
use Rattle.decl_words.proofs.Lists.{In, In-filter, filter-In, In-none}

-- all pass where each does
all_from : {X : Type 0} (p : X → Bool) (xs : List X) → ((x : X) → In x xs → p x ≡ true) → list_all p xs ≡ true
all_from p [] each = refl
all_from p (x ∷ xs) each = ap (λ b. b && list_all p xs) (each x (inl refl)) ∙ all_from p xs (λ y h. each y (inr h))

-- those of a round, and then those of the later rounds
order_of : ℕ → List FunctionDecl → List FunctionDecl
order_of zero functions = functions
order_of (suc n) functions = filter (λ f. not (waits_for functions f)) functions ++ order_of n (still_waiting functions)

not-not : (b : Bool) → b ≡ not (not b)
not-not true = refl
not-not false = refl

same_functions : (n : ℕ) (functions : List FunctionDecl) → IsPermutation (order_of n functions) functions
unfolding order_of
same_functions zero functions = IsPermutation-refl functions
same_functions (suc n) functions =
    let now = filter (λ f. not (waits_for functions f)) functions in
    IsPermutation-trans _ _ _ (IsPermutation-append_right now (order_of n (still_waiting functions)) (still_waiting functions) (same_functions n (still_waiting functions)))
    (IsPermutation-sym _ _ (IsPermutation-filter_both (λ f. not (waits_for functions f)) (waits_for functions) (λ f. not-not (waits_for functions f)) functions))

-- functions that depend on what is done, before others that may run after them
run-append : (done : List (List ℕ)) (xs ys : List FunctionDecl)
    → ((f : FunctionDecl) → In f xs → (d : List ℕ) → In d f.depends → has_name done d ≡ true)
    → ((after : List (List ℕ)) → ((d : List ℕ) → has_name done d ≡ true → has_name after d ≡ true) → ((d : List ℕ) → has_name (names_of_functions xs) d ≡ true → has_name after d ≡ true) → comes_after after ys ≡ true)
    → comes_after done (xs ++ ys) ≡ true
run-append done [] ys ready rest = rest done (λ d h. h) (λ d h. absurd (true≢false (sym h)))
run-append done (x ∷ xs) ys ready rest =
    ap (λ b. b && comes_after (x.name ∷ done) (xs ++ ys)) (all_from (has_name done) x.depends (ready x (inl refl)))
    ∙ run-append (x.name ∷ done) xs ys (λ f h d at. more d (ready f (inr h) d at)) (λ after grows named. rest after (λ d h. grows d (more d h)) (λ d h. by d after grows named (bytes_eq d x.name) refl h))
  where
    more : (d : List ℕ) → has_name done d ≡ true → has_name (x.name ∷ done) d ≡ true
    more d h = ap (λ b. bytes_eq d x.name || b) h ∙ or-true (bytes_eq d x.name)

    by : (d : List ℕ) (after : List (List ℕ)) → ((e : List ℕ) → has_name (x.name ∷ done) e ≡ true → has_name after e ≡ true) → ((e : List ℕ) → has_name (names_of_functions xs) e ≡ true → has_name after e ≡ true)
        → (b : Bool) → bytes_eq d x.name ≡ b → (b || has_name (names_of_functions xs) d) ≡ true → has_name after d ≡ true
    by d after grows named true e h = grows d (ap (λ b. b || has_name done d) e)
    by d after grows named false e h = named d h

module _ (functions : List FunctionDecl) (known : list_any (depends_on_unknown (names_of_functions functions)) functions ≡ false) where
  -- the names that are no more among these functions are done
  abbrev AreDone : List FunctionDecl → List (List ℕ) → Type 0
  AreDone fs done = (d : List ℕ) → has_name (names_of_functions functions) d ≡ true → has_name (names_of_functions fs) d ≡ false → has_name done d ≡ true

  runs : (n : ℕ) (fs : List FunctionDecl) (done : List (List ℕ)) → after_rounds n fs ≡ [] → ((g : FunctionDecl) → In g fs → In g functions) → AreDone fs done → comes_after done (order_of n fs) ≡ true
  unfolding order_of
  runs zero fs done none within finished = ap (comes_after done) none
  runs (suc n) fs done none within finished =
      run-append done (filter (λ f. not (waits_for fs f)) fs) (order_of n (still_waiting fs))
      (λ f h d at.
      let kept = In-filter (λ g. not (waits_for fs g)) fs f h in
      finished d (dependency-known functions known f (within f kept.0) d at) (In-none (has_name (names_of_functions fs)) f.depends d (not-true (waits_for fs f) kept.1) at))
      (λ after grows now. runs n (still_waiting fs) after none (λ g h. within g (In-filter (waits_for fs) fs g h).0) (λ d is left. by d after grows now is left (has_name (names_of_functions fs) d) refl))
    where
      not-true : (b : Bool) → not b ≡ true → b ≡ false
      not-true true h = absurd (true≢false (sym h))
      not-true false h = refl

      by : (d : List ℕ) (after : List (List ℕ)) → ((e : List ℕ) → has_name done e ≡ true → has_name after e ≡ true)
          → ((e : List ℕ) → has_name (names_of_functions (filter (λ f. not (waits_for fs f)) fs)) e ≡ true → has_name after e ≡ true)
          → has_name (names_of_functions functions) d ≡ true → has_name (names_of_functions (still_waiting fs)) d ≡ false
          → (b : Bool) → has_name (names_of_functions fs) d ≡ b → has_name after d ≡ true
      by d after grows now is left false e = grows d (finished d is e)
      by d after grows now is left true e = let found = named fs d e in go found.0 found.1.0 found.1.1 (waits_for fs found.0) refl
        where
          go : (g : FunctionDecl) → In g fs → g.name ≡ d → (b : Bool) → waits_for fs g ≡ b → has_name after d ≡ true
          go g there same true w = absurd (true≢false (sym (has_name-In (still_waiting fs) g (filter-In (waits_for fs) fs g there w)) ∙ ap (has_name (names_of_functions (still_waiting fs))) same ∙ left))
          go g there same false w = now d (ap (has_name (names_of_functions (filter (λ f. not (waits_for fs f)) fs))) (sym same) ∙ has_name-In (filter (λ f. not (waits_for fs f)) fs) g (filter-In (λ f. not (waits_for fs f)) fs g there (ap not w)))

  pub can_run : leftover functions ≡ [] → CanRun functions
  can_run none = record {
    order = order_of (length functions) functions;
    same = same_functions (length functions) functions;
    after = runs (length functions) functions [] none (λ g h. h) (λ d is left. absurd (true≢false (sym is ∙ left)));
  }
