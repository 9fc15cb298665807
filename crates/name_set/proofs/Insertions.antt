-- What is among the names of a set after an insertion.
use Rattle.std.proofs.Common.{◌≡◌, ℕ, List, [], ◌∷◌, ◌++◌, bytes_eq, Bool, true, false, not, ◌||◌, refl, sym, ap, ◌∙◌, cond}
use Rattle.std.proofs.Math.Bool.{or-true, or-false}
use Rattle.std.proofs.lemmas.List.Folds.{list_any-append}
use Rattle.std.proofs.lemmas.Slice.Eq.{bytes_eq-Decides}
use Rattle.sp_model.specs.Names.{has_name}

-- a name more at the end
at_the_end : (names : List (List ℕ)) (name q : List ℕ) → has_name (names ++ name ∷ []) q ≡ (has_name names q || bytes_eq q name)
at_the_end names name q = list_any-append (bytes_eq q) names (name ∷ []) ∙ ap (λ b. has_name names q || b) (or-false (bytes_eq q name))

-- a name that is there already changes nothing
has_name-again : (names : List (List ℕ)) (name q : List ℕ) → has_name names name ≡ true → has_name names q ≡ (has_name names q || bytes_eq q name)
has_name-again names name q there = by (bytes_eq q name) refl
  where
    by : (b : Bool) → bytes_eq q name ≡ b → has_name names q ≡ (has_name names q || b)
    by true same = ap (has_name names) ((bytes_eq-Decides q name).0 same) ∙ there ∙ sym (or-true (has_name names q))
    by false other = sym (or-false (has_name names q))

not-false : (b : Bool) → false ≡ not b → b ≡ true
not-false true h = refl
not-false false h = absurd (cc)

-- what is among the names after an insertion
pub has_name-added : (names : List (List ℕ)) (name : List ℕ) (new : List (List ℕ)) (added : Bool)
    → added ≡ not (has_name names name) → new ≡ cond added (names ++ name ∷ []) names
    → (q : List ℕ) → has_name new q ≡ (has_name names q || bytes_eq q name)
has_name-added names name new added was is q = ap (λ s. has_name s q) is ∙ by added was
  where
    by : (b : Bool) → b ≡ not (has_name names name) → has_name (cond b (names ++ name ∷ []) names) q ≡ (has_name names q || bytes_eq q name)
    by true w = at_the_end names name q
    by false w = has_name-again names name q (not-false (has_name names name) w)

or-assoc : (a b c : Bool) → ((a || b) || c) ≡ (a || (b || c))
or-assoc true b c = refl
or-assoc false b c = refl

-- and then the rest
pub has_name-insert : (names : List (List ℕ)) (name : List ℕ) (new : List (List ℕ)) (added : Bool)
    → added ≡ not (has_name names name) → new ≡ cond added (names ++ name ∷ []) names
    → (q : List ℕ) (rest : Bool) → (has_name new q || rest) ≡ (has_name names q || (bytes_eq q name || rest))
has_name-insert names name new added was is q rest =
    ap (λ b. b || rest) (has_name-added names name new added was is q) ∙ or-assoc (has_name names q) (bytes_eq q name) rest
