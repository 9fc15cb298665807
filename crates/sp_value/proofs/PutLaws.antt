-- A value put under a name keeps the names rising.
use Rattle.std.proofs.Math.Seq.{drop-cons, take-length}
use Rattle.std.specs.List.{zip}
use Rattle.sp_value.proofs.Zips.{names_of_zip, values_of_zip, zip_parts}
use Rattle.sp_value.specs.declared.cell.Cell as c
use Rattle.std.proofs.Common.{◌≡◌, ◌<◌, ◌-◌, ◌+◌, ◌++◌, add-one, suc, length, length-drop, take, drop, get_or, ℕ, List, [], ◌∷◌, Bool, true, false, ◌&&◌, Ordering, Less, Equal, Greater, refl, ap, ◌∙◌, sym, arith}
use Rattle.std.proofs.lemmas.Cmp.{nat_list_cmp_total}
use Rattle.std.specs.Cmp.Lexicographic.{slice_cmp}
use Rattle.std.specs.Ordering.{nat_cmp, match_ordering, ordering_reverse}
use Rattle.sp_value.specs.Names.{is_below, rise, names_of, values_of, put_under}
use Rattle.sp_value.specs.declared.cell.Cell.{Cell}

abbrev Pairs : Type 0
Pairs = List (List ℕ × Cell)

-- the name is below the first of these
abbrev above : List ℕ → List (List ℕ) → Bool
above x [] = true
above x (y ∷ ys) = is_below x y

both : (a b : Bool) → a ≡ true → b ≡ true → (a && b) ≡ true
both a b p q = grind arith

left : (a b : Bool) → (a && b) ≡ true → a ≡ true
left a b h = grind arith

right : (a b : Bool) → (a && b) ≡ true → b ≡ true
right a b h = grind arith

rise_join : (x : List ℕ) (xs : List (List ℕ)) → above x xs ≡ true → rise xs ≡ true → rise (x ∷ xs) ≡ true
rise_join x [] a r = refl
rise_join x (y ∷ ys) a r = both (is_below x y) (rise (y ∷ ys)) a r

above_first : (x : List ℕ) (xs : List (List ℕ)) → rise (x ∷ xs) ≡ true → above x xs ≡ true
above_first x [] h = refl
above_first x (y ∷ ys) h = left (is_below x y) (rise (y ∷ ys)) h

rise_rest : (x : List ℕ) (xs : List (List ℕ)) → rise (x ∷ xs) ≡ true → rise xs ≡ true
rise_rest x [] h = refl
rise_rest x (y ∷ ys) h = right (is_below x y) (rise (y ∷ ys)) h

below_less : (x y : List ℕ) → slice_cmp nat_cmp x y ≡ Less → is_below x y ≡ true
below_less x y h = ap (λ o. match_ordering o true false false) h

below_greater : (x y : List ℕ) → slice_cmp nat_cmp x y ≡ Greater → is_below y x ≡ true
below_greater x y h = below_less y x (nat_list_cmp_total.antisymm y x ∙ ap ordering_reverse h)

above_same : (x y : List ℕ) → slice_cmp nat_cmp x y ≡ Equal → (zs : List (List ℕ)) → above y zs ≡ true → above x zs ≡ true
above_same x y h [] a = refl
above_same x y h (z ∷ zs) a = ap (λ o. match_ordering o true false false) (nat_list_cmp_total.congr x y z h) ∙ a

abbrev put_at : Ordering → List ℕ → Cell → (List ℕ × Cell) → Pairs → Pairs
put_at o name x m ms = match_ordering o ((name, x) ∷ m ∷ ms) ((name, x) ∷ ms) (m ∷ put_under name x ms)

above_put_at : (low name : List ℕ) (x : Cell) (m : List ℕ × Cell) (ms : Pairs) (o : Ordering) → is_below low name ≡ true → is_below low m.0 ≡ true
    → above low (names_of (put_at o name x m ms)) ≡ true
above_put_at low name x m ms Less a b = a
above_put_at low name x m ms Equal a b = a
above_put_at low name x m ms Greater a b = b

above_put : (low name : List ℕ) (x : Cell) (ms : Pairs) → is_below low name ≡ true → above low (names_of ms) ≡ true → above low (names_of (put_under name x ms)) ≡ true
above_put low name x [] a b = a
above_put low name x (m ∷ ms) a b = above_put_at low name x m ms (slice_cmp nat_cmp name m.0) a b

rise_put_at : (name : List ℕ) (x : Cell) (m : List ℕ × Cell) (ms : Pairs) (o : Ordering) → slice_cmp nat_cmp name m.0 ≡ o → rise (m.0 ∷ names_of ms) ≡ true
    → rise (names_of (put_under name x ms)) ≡ true → rise (names_of (put_at o name x m ms)) ≡ true
rise_put_at name x m ms Less e h later = rise_join name (m.0 ∷ names_of ms) (below_less name m.0 e) h
rise_put_at name x m ms Equal e h later =
    rise_join name (names_of ms) (above_same name m.0 e (names_of ms) (above_first m.0 (names_of ms) h)) (rise_rest m.0 (names_of ms) h)
rise_put_at name x m ms Greater e h later =
    rise_join m.0 (names_of (put_under name x ms)) (above_put m.0 name x ms (below_greater name m.0 e) (above_first m.0 (names_of ms) h)) later

pub rise_put : (name : List ℕ) (x : Cell) (ms : Pairs) → rise (names_of ms) ≡ true → rise (names_of (put_under name x ms)) ≡ true
rise_put name x [] h = refl
rise_put name x (m ∷ ms) h = rise_put_at name x m ms (slice_cmp nat_cmp name m.0) refl h (rise_put name x ms (rise_rest m.0 (names_of ms) h))

-- ---- the parts of a list of pairs from a place on

zip_drop : (ns : List (List ℕ)) (vs : List Cell) (i : ℕ) (n : List ℕ) (v : Cell) → i < length ns → length ns ≡ length vs
    → zip (drop i ns) (drop i vs) ≡ (get_or ns i n, get_or vs i v) ∷ zip (drop (suc i) ns) (drop (suc i) vs)
zip_drop ns vs i n v h e =
    let left_is : drop i ns ≡ get_or ns i n ∷ drop (suc i) ns = drop-cons ns i n h in
    let right_is : drop i vs ≡ get_or vs i v ∷ drop (suc i) vs = drop-cons vs i v (omega arith) in
    ap (λ l. zip l (drop i vs)) left_is ∙ ap (λ r. zip (get_or ns i n ∷ drop (suc i) ns) r) right_is

same_rest : (ns : List (List ℕ)) (vs : List Cell) (i : ℕ) → length ns ≡ length vs → length (drop i vs) ≡ length (drop i ns)
same_rest ns vs i e = simp (length-drop) (omega arith)

module _ (name : List ℕ) (x : Cell) (ns : List (List ℕ)) (vs : List Cell) (i : ℕ) (n : List ℕ) (v : Cell) (h : i < length ns) (e : length ns ≡ length vs) where
  abbrev at_place : Ordering → Pairs
  at_place o = match_ordering o
      ((name, x) ∷ (get_or ns i n, get_or vs i v) ∷ zip (drop (suc i) ns) (drop (suc i) vs))
      ((name, x) ∷ zip (drop (suc i) ns) (drop (suc i) vs))
      ((get_or ns i n, get_or vs i v) ∷ put_under name x (zip (drop (suc i) ns) (drop (suc i) vs)))

  put_place : (o : Ordering) → slice_cmp nat_cmp name (get_or ns i n) ≡ o → put_under name x (zip (drop i ns) (drop i vs)) ≡ at_place o
  put_place o c = ap (put_under name x) (zip_drop ns vs i n v h e) ∙ ap at_place c

  pub names_less : slice_cmp nat_cmp name (get_or ns i n) ≡ Less → names_of (put_under name x (zip (drop i ns) (drop i vs))) ≡ name ∷ drop i ns
  names_less c = ap names_of (put_place Less c) ∙ ap (λ l. name ∷ get_or ns i n ∷ l) (names_of_zip (drop (suc i) ns) (drop (suc i) vs) (same_rest ns vs (suc i) e)) ∙ ap (λ l. name ∷ l) (sym (drop-cons ns i n h))

  pub values_less : slice_cmp nat_cmp name (get_or ns i n) ≡ Less → values_of (put_under name x (zip (drop i ns) (drop i vs))) ≡ x ∷ drop i vs
  values_less c = ap values_of (put_place Less c) ∙ ap (λ l. x ∷ get_or vs i v ∷ l) (values_of_zip (drop (suc i) ns) (drop (suc i) vs) (same_rest ns vs (suc i) e)) ∙ ap (λ l. x ∷ l) (sym (drop-cons vs i v (omega arith)))

  pub names_equal : slice_cmp nat_cmp name (get_or ns i n) ≡ Equal → names_of (put_under name x (zip (drop i ns) (drop i vs))) ≡ name ∷ drop (suc i) ns
  names_equal c = ap names_of (put_place Equal c) ∙ ap (λ l. name ∷ l) (names_of_zip (drop (suc i) ns) (drop (suc i) vs) (same_rest ns vs (suc i) e))

  pub values_equal : slice_cmp nat_cmp name (get_or ns i n) ≡ Equal → values_of (put_under name x (zip (drop i ns) (drop i vs))) ≡ x ∷ drop (suc i) vs
  values_equal c = ap values_of (put_place Equal c) ∙ ap (λ l. x ∷ l) (values_of_zip (drop (suc i) ns) (drop (suc i) vs) (same_rest ns vs (suc i) e))

  pub names_greater : slice_cmp nat_cmp name (get_or ns i n) ≡ Greater
      → names_of (put_under name x (zip (drop i ns) (drop i vs))) ≡ get_or ns i n ∷ names_of (put_under name x (zip (drop (suc i) ns) (drop (suc i) vs)))
  names_greater c = ap names_of (put_place Greater c)

  pub values_greater : slice_cmp nat_cmp name (get_or ns i n) ≡ Greater
      → values_of (put_under name x (zip (drop i ns) (drop i vs))) ≡ get_or vs i v ∷ values_of (put_under name x (zip (drop (suc i) ns) (drop (suc i) vs)))
  values_greater c = ap values_of (put_place Greater c)

take_rest : {X : Type 0} (xs : List X) (i : ℕ) → take (length xs - i) (drop i xs) ≡ drop i xs
take_rest xs i = ap (λ n. take n (drop i xs)) (sym (length-drop i xs)) ∙ take-length (drop i xs)

-- ---- what is put where the name is below a name, or is it

module _ (name : List ℕ) (x : Cell) (ns : List (List ℕ)) (vs : List Cell) (i : ℕ) (n : List ℕ) (h : i < length ns) (e : length ns ≡ length vs) (is : n ≡ get_or ns i n) (o : Ordering)
    (cmp : o ≡ slice_cmp nat_cmp name n) where
  here : (p : Ordering) → o ≡ p → slice_cmp nat_cmp name (get_or ns i n) ≡ p
  here p at = ap (slice_cmp nat_cmp name) (sym is) ∙ sym cmp ∙ at

  pub less_names : (into new all : List (List ℕ)) → o ≡ Less → new ≡ into ++ name ∷ take (length ns - i) (drop i ns) → into ++ names_of (put_under name x (zip (drop i ns) (drop i vs))) ≡ all → new ≡ all
  less_names into new all at done rest = done ∙ ap (λ l. into ++ name ∷ l) (take_rest ns i) ∙ ap (λ l. into ++ l) (sym (names_less name x ns vs i n c.Null h e (here Less at))) ∙ rest

  pub less_values : (into new all : List Cell) → o ≡ Less → new ≡ into ++ x ∷ take (length vs - i) (drop i vs) → into ++ values_of (put_under name x (zip (drop i ns) (drop i vs))) ≡ all → new ≡ all
  less_values into new all at done rest = done ∙ ap (λ l. into ++ x ∷ l) (take_rest vs i) ∙ ap (λ l. into ++ l) (sym (values_less name x ns vs i n c.Null h e (here Less at))) ∙ rest

  pub equal_names : (into new all : List (List ℕ)) → o ≡ Equal → new ≡ into ++ name ∷ take (length ns - (i + 1)) (drop (i + 1) ns) → into ++ names_of (put_under name x (zip (drop i ns) (drop i vs))) ≡ all → new ≡ all
  equal_names into new all at done rest =
      done ∙ ap (λ l. into ++ name ∷ l) (take_rest ns (i + 1)) ∙ ap (λ k. into ++ name ∷ drop k ns) (add-one i) ∙ ap (λ l. into ++ l) (sym (names_equal name x ns vs i n c.Null h e (here Equal at))) ∙ rest

  pub equal_values : (into new all : List Cell) → o ≡ Equal → new ≡ into ++ x ∷ take (length vs - (i + 1)) (drop (i + 1) vs) → into ++ values_of (put_under name x (zip (drop i ns) (drop i vs))) ≡ all → new ≡ all
  equal_values into new all at done rest =
      done ∙ ap (λ l. into ++ x ∷ l) (take_rest vs (i + 1)) ∙ ap (λ k. into ++ x ∷ drop k vs) (add-one i) ∙ ap (λ l. into ++ l) (sym (values_equal name x ns vs i n c.Null h e (here Equal at))) ∙ rest

-- ---- the parts of what is put

same_length : (ms : Pairs) → length (names_of ms) ≡ length (values_of ms)
same_length [] = refl
same_length (m ∷ ms) = ap suc (same_length ms)

pub parts_same : (ms : Pairs) (ns : List (List ℕ)) (vs : List Cell) → ns ≡ names_of ms → vs ≡ values_of ms → length ns ≡ length vs
parts_same ms ns vs p q = ap length p ∙ same_length ms ∙ sym (ap length q)

module _ (name : List ℕ) (x : Cell) (ms : Pairs) (ns before_ns new_ns : List (List ℕ)) (vs before_vs new_vs : List Cell) (p : ns ≡ names_of ms) (q : vs ≡ values_of ms) (no_ns : before_ns ≡ []) (no_vs : before_vs ≡ [])
    (n : new_ns ≡ before_ns ++ names_of (put_under name x (zip ns vs))) (v : new_vs ≡ before_vs ++ values_of (put_under name x (zip ns vs))) where
  pairs : zip ns vs ≡ ms
  pairs = ap (λ l. zip l vs) p ∙ ap (λ l. zip (names_of ms) l) q ∙ zip_parts ms

  names_are : new_ns ≡ names_of (put_under name x ms)
  names_are = n ∙ ap (λ l. l ++ names_of (put_under name x (zip ns vs))) no_ns ∙ ap (λ l. names_of (put_under name x l)) pairs

  values_are : new_vs ≡ values_of (put_under name x ms)
  values_are = v ∙ ap (λ l. l ++ values_of (put_under name x (zip ns vs))) no_vs ∙ ap (λ l. values_of (put_under name x l)) pairs

  pub put_many : length new_vs ≡ length new_ns
  put_many = sym (parts_same (put_under name x ms) new_ns new_vs names_are values_are)

  pub put_rises : rise ns ≡ true → rise new_ns ≡ true
  put_rises h = ap rise names_are ∙ rise_put name x ms (ap rise (sym p) ∙ h)

  pub put_is : zip new_ns new_vs ≡ put_under name x ms
  put_is = ap (λ l. zip l new_vs) names_are ∙ ap (λ l. zip (names_of (put_under name x ms)) l) values_are ∙ zip_parts (put_under name x ms)
