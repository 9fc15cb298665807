-- The least tick at which each of some limiters has a token.
use Rattle.std.proofs.Common.{ℕ, ◌+◌, ◌<◌, List, [], ◌∷◌, ◌++◌, length, take, get_or, max, subst, arith}
use Rattle.std.proofs.lemmas.List.{take_more}
use Rattle.std.specs.List.{AllByRecursion}
use Rattle.rate_bucket.specs.Windows.{IsFirstFrom}
use Rattle.rate_gate.proofs.Lists.{all_more}

snoc_parts : {X : Type 0} (P : X → Type 0) (xs : List X) (x : X) → AllByRecursion P (xs ++ x ∷ []) → AllByRecursion P xs × P x
snoc_parts P [] x h = (tt, h.0)
snoc_parts P (y ∷ ys) x h = let rest = snoc_parts P ys x h.1 in ((h.0, rest.0), rest.1)

all_parts : {X : Type 0} (P : X → Type 0) (xs : List X) (k : ℕ) (d : X) → k < length xs → AllByRecursion P (take (k + 1) xs) → AllByRecursion P (take k xs) × P (get_or xs k d)
all_parts {X} P xs k d lt h = snoc_parts P (take k xs) (get_or xs k d) (subst (λ (ys : List X). AllByRecursion P ys) (take_more xs k d lt) h)

pub first_none_of : (P : ℕ → Type 0) (t : ℕ) → ((u : ℕ) → P u) → IsFirstFrom t P t
first_none_of P t all = record { from = omega arith; exact = λ u tu. (λ _. all u, λ _. tu) }

pub first_of_more : {X : Type 0} (P : ℕ → X → Type 0) (xs : List X) (k : ℕ) (d : X) (t m n : ℕ) → k < length xs → IsFirstFrom t (λ u. AllByRecursion (P u) (take k xs)) m
    → IsFirstFrom t (λ u. P u (get_or xs k d)) n → IsFirstFrom t (λ u. AllByRecursion (P u) (take (k + 1) xs)) (max m n)
first_of_more P xs k d t m n lt f g =
    record {
      from = (let a = f.from in omega arith);
      exact = λ u tu. (
        λ late. all_more (P u) xs k d lt ((f.exact u tu).0 (omega arith)) ((g.exact u tu).0 (omega arith)),
        λ all.
            (let parts = all_parts (P u) xs k d lt all in
            let a = (f.exact u tu).1 parts.0 in
            let b = (g.exact u tu).1 parts.1 in
            omega arith),
      );
    }
