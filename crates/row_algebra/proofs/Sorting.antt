-- One list alone is sorted and keeps the order of what ties: that of the definition.
use Rattle.std.proofs.Common.{◌≡◌, suc, Bool, true, false, not, ◌&&◌, cond, List, [], ◌∷◌, filter, refl, sym, ap, ap₂, ◌∙◌, subst, arith, true≢false, add-one}
use Rattle.std.specs.List.{AllByRecursion}
use Rattle.std.specs.List.Sorted.{IsSortedBy, IsStableBy, ties}
use Rattle.std.specs.Cmp.{IsStrictWeakOrder}
use Rattle.row_algebra.specs.RowOrder.{inserted, sorted_by}

weaker : {X : Type 0} (P Q : X → Type 0) → ((x : X) → P x → Q x) → (xs : List X) → AllByRecursion P xs → AllByRecursion Q xs
weaker P Q h [] all = tt
weaker P Q h (x ∷ xs) all = (h x all.0, weaker P Q h xs all.1)

all_filter : {X : Type 0} (P : X → Type 0) (p : X → Bool) (xs : List X) → AllByRecursion P xs → AllByRecursion P (filter p xs)
all_filter P p [] all = tt
all_filter P p (x ∷ xs) all =
    elim (p x) as (λ b. AllByRecursion P (cond b (x ∷ filter p xs) (filter p xs))) [ true ↦ (all.0, all_filter P p xs all.1) | false ↦ all_filter P p xs all.1 ]

tails : {X : Type 0} (p : X → Bool) (x : X) (xs ys : List X) → filter p (x ∷ xs) ≡ filter p (x ∷ ys) → filter p xs ≡ filter p ys
tails {X} p x xs ys = go (p x)
  where
    go : (b : Bool) → cond b (x ∷ filter p xs) (filter p xs) ≡ cond b (x ∷ filter p ys) (filter p ys) → filter p xs ≡ filter p ys
    go true e = cc
    go false e = e

module _ {X : Type 0} (lt : X → X → Bool) (o : IsStrictWeakOrder lt) where
  irreflexive : (x : X) → lt x x ≡ false
  irreflexive x = go (lt x x) refl
    where
      go : (b : Bool) → lt x x ≡ b → lt x x ≡ false
      go true e = o.one_way x x e
      go false e = e

  tied : (x y : X) → lt x y ≡ false → lt y x ≡ false → ties lt x y ≡ true
  tied x y p q = rw (p, q)

  -- no row of the list comes before x
  abbrev IsFirst : X → List X → Type 0
  IsFirst x ys = AllByRecursion (λ y. lt y x ≡ false) ys

  abbrev Rises : List X → Type 0
  Rises [] = Unit {0}
  Rises (x ∷ xs) = IsFirst x xs × Rises xs

  first_of_sorted : (x : X) (ys : List X) → IsSortedBy lt (x ∷ ys) → Rises ys → IsFirst x ys
  first_of_sorted x [] up rest = tt
  first_of_sorted x (y ∷ ys) up rest =
      let here : lt y x ≡ false = up 0 x (omega arith) (omega arith) in
      (here, weaker (λ z. lt z y ≡ false) (λ z. lt z x ≡ false) (λ z h. o.chain z y x h here) ys rest.0)

  rises_of_sorted : (xs : List X) → IsSortedBy lt xs → Rises xs
  rises_of_sorted [] up = tt
  rises_of_sorted (x ∷ xs) up =
      let tail : IsSortedBy lt xs = λ k d p q. rw add-one (rw add-one at (up (suc k) d (omega arith) (omega arith))) in
      let rest = rises_of_sorted xs tail in
      (first_of_sorted x xs up rest, rest)

  -- a tie class begins with its member
  class : (x : X) (xs : List X) → filter (ties lt x) (x ∷ xs) ≡ x ∷ filter (ties lt x) xs
  class x xs = let own : ties lt x x ≡ true = tied x x (irreflexive x) (irreflexive x) in rw own

  -- the first of one list does not come before the first of the other
  first_among : (x y : X) (xs ys : List X) → IsFirst x xs → filter (ties lt y) (x ∷ xs) ≡ filter (ties lt y) (y ∷ ys) → lt y x ≡ false
  first_among x y xs ys first e =
      let low = all_filter (λ z. lt z x ≡ false) (ties lt y) (x ∷ xs) (irreflexive x, first) in
      (subst (AllByRecursion (λ z. lt z x ≡ false)) (e ∙ class y ys) low).0

  one_list : (xs ys : List X) → Rises xs → Rises ys → ((t : X) → filter (ties lt t) xs ≡ filter (ties lt t) ys) → xs ≡ ys
  one_list [] [] up vp e = refl
  one_list [] (y ∷ ys) up vp e = let differs : [] ≡ y ∷ filter (ties lt y) ys = e y ∙ class y ys in cc
  one_list (x ∷ xs) [] up vp e = let differs : x ∷ filter (ties lt x) xs ≡ [] = sym (class x xs) ∙ e x in cc
  one_list (x ∷ xs) (y ∷ ys) up vp e =
      let below : lt y x ≡ false = first_among x y xs ys up.0 (e y) in
      let above : lt x y ≡ false = first_among y x ys xs vp.0 (sym (e x)) in
      let level : ties lt x y ≡ true = tied x y above below in
      let starts : filter (ties lt x) (y ∷ ys) ≡ y ∷ filter (ties lt x) ys = rw level in
      let heads : x ∷ filter (ties lt x) xs ≡ y ∷ filter (ties lt x) ys = sym (class x xs) ∙ e x ∙ starts in
      let same : x ≡ y = cc in
      ap₂ ◌∷◌ same (one_list xs ys up.1 vp.1 (λ t. tails (ties lt t) x xs ys (e t ∙ ap (λ z. filter (ties lt t) (z ∷ ys)) (sym same))))

  -- ---- the definition

  all_inserted : (P : X → Type 0) (x : X) (ys : List X) → P x → AllByRecursion P ys → AllByRecursion P (inserted lt x ys)
  all_inserted P x [] h all = (h, tt)
  all_inserted P x (y ∷ ys) h all =
      elim (lt y x) as (λ b. AllByRecursion P (cond b (y ∷ inserted lt x ys) (x ∷ y ∷ ys))) [ true ↦ (all.0, all_inserted P x ys h all.1) | false ↦ (h, all) ]

  rises_inserted : (x : X) (ys : List X) → Rises ys → Rises (inserted lt x ys)
  rises_inserted x [] up = (tt, tt)
  rises_inserted x (y ∷ ys) up = go (lt y x) refl (rises_inserted x ys up.1)
    where
      go : (b : Bool) → lt y x ≡ b → Rises (inserted lt x ys) → Rises (cond b (y ∷ inserted lt x ys) (x ∷ y ∷ ys))
      go true e more = (all_inserted (λ z. lt z y ≡ false) x ys (o.one_way y x e) up.0, more)
      go false e more = ((e, weaker (λ z. lt z y ≡ false) (λ z. lt z x ≡ false) (λ z h. o.chain z y x h e) ys up.0), up)

  rises_sorted : (xs : List X) → Rises (sorted_by lt xs)
  rises_sorted [] = tt
  rises_sorted (x ∷ xs) = rises_inserted x (sorted_by lt xs) (rises_sorted xs)

  -- what two tests of ties say
  left_of : (a b : Bool) → not a && not b ≡ true → a ≡ false
  left_of true b e = absurd (true≢false (sym e))
  left_of false b e = refl

  right_of : (a b : Bool) → not a && not b ≡ true → b ≡ false
  right_of true b e = absurd (true≢false (sym e))
  right_of false true e = absurd (true≢false (sym e))
  right_of false false e = refl

  -- of two that tie with a third, neither comes first
  apart : (t x y : X) → ties lt t x ≡ true → ties lt t y ≡ true → lt y x ≡ false
  apart t x y p q = o.chain y t x (right_of (lt t y) (lt y t) q) (left_of (lt t x) (lt x t) p)

  class_inserted : (t x : X) (ys : List X) → filter (ties lt t) (inserted lt x ys) ≡ filter (ties lt t) (x ∷ ys)
  class_inserted t x [] = refl
  class_inserted t x (y ∷ ys) = go (lt y x) refl (class_inserted t x ys)
    where
      two : (a b : Bool) → ties lt t x ≡ a → ties lt t y ≡ b → lt y x ≡ true → (rest : List X) → rest ≡ cond a (x ∷ filter (ties lt t) ys) (filter (ties lt t) ys)
          → cond b (y ∷ rest) rest ≡ cond a (x ∷ cond b (y ∷ filter (ties lt t) ys) (filter (ties lt t) ys)) (cond b (y ∷ filter (ties lt t) ys) (filter (ties lt t) ys))
      two true true p q e rest more = absurd (true≢false (sym e ∙ apart t x y p q))
      two true false p q e rest more = more
      two false true p q e rest more = ap (λ l. y ∷ l) more
      two false false p q e rest more = more

      go : (b : Bool) → lt y x ≡ b → filter (ties lt t) (inserted lt x ys) ≡ filter (ties lt t) (x ∷ ys) → filter (ties lt t) (cond b (y ∷ inserted lt x ys) (x ∷ y ∷ ys)) ≡ filter (ties lt t) (x ∷ y ∷ ys)
      go true e more = two (ties lt t x) (ties lt t y) refl refl e (filter (ties lt t) (inserted lt x ys)) more
      go false e more = refl

  class_sorted : (t : X) (xs : List X) → filter (ties lt t) (sorted_by lt xs) ≡ filter (ties lt t) xs
  class_sorted t [] = refl
  class_sorted t (x ∷ xs) = class_inserted t x (sorted_by lt xs) ∙ ap (λ l. cond (ties lt t x) (x ∷ l) l) (class_sorted t xs)

  pub sorted_is : (xs ys : List X) → IsSortedBy lt ys → IsStableBy lt xs ys → ys ≡ sorted_by lt xs
  sorted_is xs ys up stable = one_list ys (sorted_by lt xs) (rises_of_sorted ys up) (rises_sorted xs) (λ t. stable t ∙ sym (class_sorted t xs))
