-- Elements put into their places one after another, where none is that ties with them: the same as a stable sort without ties.
use Rattle.std.proofs.Common.{◌≡◌, suc, Bool, true, false, not, ◌&&◌, cond, List, [], ◌∷◌, ◌++◌, filter, reverse, refl, sym, ap, ◌∙◌, arith, true≢false, add-one, Ordering, Less, Equal, Greater}
use Rattle.std.proofs.lemmas.Cmp.{tied_itself}
use Rattle.std.proofs.lemmas.List.{reverse-append}
use Rattle.std.specs.Cmp.{IsTotalOrder}
use Rattle.std.specs.List.{dedup, dedup_from}
use Rattle.std.specs.List.Sorted.{IsSortedBy, IsStableBy, ties}
use Rattle.std.specs.Ordering.{is_lt, match_ordering, ordering_reverse}

-- the tail of a list
abbrev rest : {X : Type 0} → List X → List X
rest [] = []
rest (x ∷ xs) = xs

module _ {X : Type 0} (R : X → X → Ordering) where
  abbrev pub put : X → List X → List X
  put x [] = x ∷ []
  put x (d ∷ ds) = match_ordering (R x d) (x ∷ d ∷ ds) (d ∷ ds) (d ∷ put x ds)

  -- from the last on
  abbrev pub placed : List X → List X
  placed [] = []
  placed (x ∷ xs) = put x (placed xs)

  -- from the first on, into a list
  abbrev puts : List X → List X → List X
  puts l [] = l
  puts l (x ∷ xs) = puts (put x l) xs

  abbrev same : X → X → Bool
  same x y = match_ordering (R x y) false true false

  abbrev less : X → X → Bool
  less x y = is_lt (R x y)

  -- without the first that ties with this one
  abbrev rest_of : X → List X → List X
  rest_of a [] = []
  rest_of a (b ∷ bs) = cond (same a b) bs (b ∷ rest_of a bs)

  at_less : (x d : X) (ds : List X) → R x d ≡ Less → put x (d ∷ ds) ≡ x ∷ d ∷ ds
  at_less x d ds p = ap (λ r. match_ordering r (x ∷ d ∷ ds) (d ∷ ds) (d ∷ put x ds)) p

  at_equal : (x d : X) (ds : List X) → R x d ≡ Equal → put x (d ∷ ds) ≡ d ∷ ds
  at_equal x d ds p = ap (λ r. match_ordering r (x ∷ d ∷ ds) (d ∷ ds) (d ∷ put x ds)) p

  at_greater : (x d : X) (ds : List X) → R x d ≡ Greater → put x (d ∷ ds) ≡ d ∷ put x ds
  at_greater x d ds p = ap (λ r. match_ordering r (x ∷ d ∷ ds) (d ∷ ds) (d ∷ put x ds)) p

  module _ (o : IsTotalOrder R) where
    flips : (x y : X) (r : Ordering) → R x y ≡ r → R y x ≡ ordering_reverse r
    flips x y r p = o.antisymm y x ∙ ap ordering_reverse p

    -- of two that tie, each stands to a third as the other
    same_right : (t a b : X) → R a b ≡ Equal → R t a ≡ R t b
    same_right t a b p = o.antisymm t a ∙ ap ordering_reverse (o.congr a b t p) ∙ sym (o.antisymm t b)

    -- ---- the order of two puts

    commute : (x y : X) (l : List X) → R x y ≡ Less → put x (put y l) ≡ put y (put x l)
    commute x y [] p = at_less x y [] p ∙ sym (at_greater y x [] (flips x y Less p))
    commute x y (d ∷ ds) p = go (R x d) refl (R y d) refl (commute x y ds p)
      where
        below : put x (y ∷ d ∷ ds) ≡ x ∷ y ∷ d ∷ ds
        below = at_less x y (d ∷ ds) p

        above : put y (x ∷ d ∷ ds) ≡ x ∷ put y (d ∷ ds)
        above = at_greater y x (d ∷ ds) (flips x y Less p)

        behind : R y d ≡ Greater → put y (d ∷ ds) ≡ d ∷ put y ds
        behind q = at_greater y d ds q

        tied : R x d ≡ Equal → R y d ≡ Greater
        tied q = flips d y Less (sym (o.congr x d y q) ∙ p)

        greater : R x d ≡ Greater → R y d ≡ Greater
        greater q = flips d y Less (o.trans d x y (flips x d Greater q) p)

        go : (a : Ordering) → R x d ≡ a → (b : Ordering) → R y d ≡ b → put x (put y ds) ≡ put y (put x ds) → put x (put y (d ∷ ds)) ≡ put y (put x (d ∷ ds))
        go Less q Less r h = ap (put x) (at_less y d ds r) ∙ below ∙ sym (ap (put y) (at_less x d ds q) ∙ above ∙ ap (λ l. x ∷ l) (at_less y d ds r))
        go Less q Equal r h = ap (put x) (at_equal y d ds r) ∙ at_less x d ds q ∙ sym (ap (put y) (at_less x d ds q) ∙ above ∙ ap (λ l. x ∷ l) (at_equal y d ds r))
        go Less q Greater r h = ap (put x) (behind r) ∙ at_less x d (put y ds) q ∙ sym (ap (put y) (at_less x d ds q) ∙ above ∙ ap (λ l. x ∷ l) (behind r))
        go Equal q b r h = ap (put x) (behind (tied q)) ∙ at_equal x d (put y ds) q ∙ sym (ap (put y) (at_equal x d ds q) ∙ behind (tied q))
        go Greater q b r h =
            ap (put x) (behind (greater q)) ∙ at_greater x d (put y ds) q ∙ ap (λ l. d ∷ l) h
            ∙ sym (ap (put y) (at_greater x d ds q) ∙ at_greater y d (put x ds) (greater q))

    swap : (x y : X) (l : List X) → same x y ≡ false → put x (put y l) ≡ put y (put x l)
    swap x y l h = go (R x y) refl
      where
        go : (a : Ordering) → R x y ≡ a → put x (put y l) ≡ put y (put x l)
        go Less p = commute x y l p
        go Equal p = absurd (true≢false (sym (ap (λ r. match_ordering r false true false) p) ∙ h))
        go Greater p = sym (commute y x l (flips x y Greater p))

    -- ---- lists with the same ties

    pulled : (a : X) (zs bs l : List X) → filter (same a) bs ≡ a ∷ zs → puts l bs ≡ puts (put a l) (rest_of a bs)
    pulled a zs [] l h = cc
    pulled a zs (b ∷ bs) l h = go (same a b) refl (pulled a zs bs (put b l)) h
      where
        go : (t : Bool) → same a b ≡ t → (filter (same a) bs ≡ a ∷ zs → puts (put b l) bs ≡ puts (put a (put b l)) (rest_of a bs))
            → cond t (b ∷ filter (same a) bs) (filter (same a) bs) ≡ a ∷ zs → puts (put b l) bs ≡ puts (put a l) (cond t bs (b ∷ rest_of a bs))
        go true e more h = let head : b ≡ a = cc in ap (λ z. puts (put z l) bs) head
        go false e more h = more h ∙ ap (λ m. puts m (rest_of a bs)) (swap a b l e)

    same_same : (t a b : X) → same a b ≡ true → same t a ≡ same t b
    same_same t a b h = go (R a b) refl
      where
        go : (r : Ordering) → R a b ≡ r → same t a ≡ same t b
        go Less p = absurd (true≢false (sym h ∙ ap (λ r. match_ordering r false true false) p))
        go Equal p = ap (λ r. match_ordering r false true false) (same_right t a b p)
        go Greater p = absurd (true≢false (sym h ∙ ap (λ r. match_ordering r false true false) p))

    same_back : (t a : X) → same t a ≡ true → same a t ≡ true
    same_back t a h = go (R t a) refl
      where
        go : (r : Ordering) → R t a ≡ r → same a t ≡ true
        go Less p = absurd (true≢false (sym h ∙ ap (λ r. match_ordering r false true false) p))
        go Equal p = ap (λ r. match_ordering r false true false) (flips t a Equal p)
        go Greater p = absurd (true≢false (sym h ∙ ap (λ r. match_ordering r false true false) p))

    -- of two that tie with a third, each ties with the other
    both_same : (t a b : X) → same t a ≡ true → same t b ≡ true → same a b ≡ true
    both_same t a b p q = sym (same_same a t b q) ∙ same_back t a p

    left_over : (t a : X) (bs : List X) → filter (same t) (rest_of a bs) ≡ cond (same t a) (rest (filter (same t) bs)) (filter (same t) bs)
    left_over t a [] = go (same t a)
      where
        go : (s : Bool) → filter (same t) [] ≡ cond s (rest (filter (same t) [])) (filter (same t) [])
        go true = refl
        go false = refl
    left_over t a (b ∷ bs) = step (same a b) ∙ cases (same a b) (same t a) (same t b) refl refl refl (filter (same t) (rest_of a bs)) (left_over t a bs)
      where
        step : (u : Bool)
            → filter (same t) (cond u bs (b ∷ rest_of a bs))
            ≡ cond u (filter (same t) bs) (cond (same t b) (b ∷ filter (same t) (rest_of a bs)) (filter (same t) (rest_of a bs)))
        step true = refl
        step false = refl

        cases : (u s v : Bool) → same a b ≡ u → same t a ≡ s → same t b ≡ v → (m : List X) → m ≡ cond s (rest (filter (same t) bs)) (filter (same t) bs)
            → cond u (filter (same t) bs) (cond v (b ∷ m) m)
            ≡ cond s (rest (cond v (b ∷ filter (same t) bs) (filter (same t) bs))) (cond v (b ∷ filter (same t) bs) (filter (same t) bs))
        cases true true true e p q m h = refl
        cases true true false e p q m h = absurd (true≢false (sym p ∙ same_same t a b e ∙ q))
        cases true false true e p q m h = absurd (true≢false (sym q ∙ sym (same_same t a b e) ∙ p))
        cases true false false e p q m h = refl
        cases false true true e p q m h = absurd (true≢false (sym (both_same t a b p q) ∙ e))
        cases false true false e p q m h = h
        cases false false true e p q m h = ap (λ l. b ∷ l) h
        cases false false false e p q m h = h

    rested : (t a : X) (xs bs : List X) → filter (same t) (a ∷ xs) ≡ filter (same t) bs → filter (same t) xs ≡ filter (same t) (rest_of a bs)
    rested t a xs bs h = go (same t a) ∙ ap (λ l. cond (same t a) (rest l) l) h ∙ sym (left_over t a bs)
      where
        go : (s : Bool) → filter (same t) xs ≡ cond s (rest (cond s (a ∷ filter (same t) xs) (filter (same t) xs))) (cond s (a ∷ filter (same t) xs) (filter (same t) xs))
        go true = refl
        go false = refl

    itself : (a : X) → same a a ≡ true
    itself a = ap (λ r. match_ordering r false true false) (tied_itself o a)

    class : (a : X) (xs : List X) → filter (same a) (a ∷ xs) ≡ a ∷ filter (same a) xs
    class a xs = ap (λ s. cond s (a ∷ filter (same a) xs) (filter (same a) xs)) (itself a)

    all_same : (xs bs l : List X) → ((t : X) → filter (same t) xs ≡ filter (same t) bs) → puts l xs ≡ puts l bs
    all_same [] [] l h = refl
    all_same [] (b ∷ bs) l h = let differs : [] ≡ b ∷ filter (same b) bs = h b ∙ class b bs in cc
    all_same (a ∷ xs) bs l h =
        all_same xs (rest_of a bs) (put a l) (λ t. rested t a xs bs (h t))
        ∙ sym (pulled a (filter (same a) xs) bs l (sym (h a) ∙ class a xs))

    -- ---- a sorted list without ties

    abbrev Up : X → List X → Type 0
    Up k [] = Unit {0}
    Up k (x ∷ xs) = (less x k ≡ false) × Up x xs

    abbrev Above : X → List X → Type 0
    Above p [] = Unit {0}
    Above p (z ∷ zs) = (R z p ≡ Greater) × Above p zs

    tail_sorted : (x : X) (xs : List X) → IsSortedBy less (x ∷ xs) → IsSortedBy less xs
    tail_sorted x xs up = λ k d p q. rw add-one (rw add-one at (up (suc k) d (omega arith) (omega arith)))

    up_of : (k : X) (xs : List X) → IsSortedBy less (k ∷ xs) → Up k xs
    up_of k [] up = tt
    up_of k (x ∷ xs) up = (up 0 k (omega arith) (omega arith), up_of x xs (tail_sorted k (x ∷ xs) up))

    over : (p : X) (l xs : List X) → Above p xs → puts (p ∷ l) xs ≡ p ∷ puts l xs
    over p l [] h = refl
    over p l (z ∷ zs) h = ap (λ m. puts m zs) (at_greater z p l h.0) ∙ over p (put z l) zs h.1

    higher : (p x z : X) → R x p ≡ Greater → less z x ≡ false → R z p ≡ Greater
    higher p x z g h = go (R z x) refl
      where
        go : (r : Ordering) → R z x ≡ r → R z p ≡ Greater
        go Less q = absurd (true≢false (sym (ap is_lt q) ∙ h))
        go Equal q = o.congr z x p q ∙ g
        go Greater q = flips p z Less (o.trans p x z (flips x p Greater g) (flips z x Greater q))

    above : (p x : X) (xs : List X) → R x p ≡ Greater → Up x xs → Above p xs
    above p x [] g up = tt
    above p x (z ∷ zs) g up = let here : R z p ≡ Greater = higher p x z g up.0 in (here, above p z zs here up.1)

    lower : (k x : X) (xs : List X) → R x k ≡ Equal → Up x xs → Up k xs
    lower k x [] e up = tt
    lower k x (y ∷ ys) e up = (ap is_lt (sym (same_right y x k e)) ∙ up.0, up.1)

    -- k and x, and what is left of the others, by the order of x and k
    abbrev choice : X → X → List X → Ordering → List X
    choice k x xs r = cond (match_ordering r false true false) (dedup_from same k xs) (k ∷ dedup_from same x xs)

    deduped : (k : X) (xs : List X) → Up k xs → puts (k ∷ []) xs ≡ dedup_from same k xs
    deduped k [] up = refl
    deduped k (x ∷ xs) up = go (R x k) refl (deduped k xs) (deduped x xs up.1)
      where
        go : (r : Ordering) → R x k ≡ r → (Up k xs → puts (k ∷ []) xs ≡ dedup_from same k xs) → puts (x ∷ []) xs ≡ dedup_from same x xs
            → puts (put x (k ∷ [])) xs ≡ choice k x xs (R x k)
        go Less p tied later = absurd (true≢false (sym (ap is_lt p) ∙ up.0))
        go Equal p tied later = ap (λ m. puts m xs) (at_equal x k [] p) ∙ tied (lower k x xs p up.1) ∙ sym (ap (choice k x xs) p)
        go Greater p tied later =
            ap (λ m. puts m xs) (at_greater x k [] p) ∙ over k (x ∷ []) xs (above k x xs p up.1) ∙ ap (λ m. k ∷ m) later ∙ sym (ap (choice k x xs) p)

    all_deduped : (xs : List X) → IsSortedBy less xs → puts [] xs ≡ dedup same xs
    all_deduped [] up = refl
    all_deduped (x ∷ xs) up = deduped x xs (up_of x xs up)

    -- ---- a list that is turned round

    puts_append : (l xs zs : List X) → puts l (xs ++ zs) ≡ puts (puts l xs) zs
    puts_append l [] zs = refl
    puts_append l (x ∷ xs) zs = puts_append (put x l) xs zs

    turned : (xs : List X) → puts [] (reverse xs) ≡ placed xs
    turned [] = refl
    turned (x ∷ xs) = ap (puts []) (reverse-append (x ∷ []) xs) ∙ puts_append [] (reverse xs) (x ∷ []) ∙ ap (put x) (turned xs)

    ties_same : (t x : X) → ties less t x ≡ same t x
    ties_same t x = ap (λ r. not (less t x) && not (is_lt r)) (o.antisymm x t) ∙ go (R t x)
      where
        go : (r : Ordering) → (not (is_lt r) && not (is_lt (ordering_reverse r))) ≡ match_ordering r false true false
        go Less = refl
        go Equal = refl
        go Greater = refl

    pub placed_is : (xs ys : List X) → IsSortedBy less ys → IsStableBy less (reverse xs) ys → dedup same ys ≡ placed xs
    placed_is xs ys up stable =
        let classes : (t : X) → filter (same t) ys ≡ filter (same t) (reverse xs) =
        λ t. (λ i. filter (λ x. sym (ties_same t x) i) ys) ∙ stable t ∙ (λ i. filter (λ x. ties_same t x i) (reverse xs)) in
        sym (all_deduped ys up) ∙ all_same ys (reverse xs) [] classes ∙ turned xs
