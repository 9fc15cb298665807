-- Names that rise, in members and in the entries of a map.
use Rattle.std.proofs.Common.{◌≡◌, ◌<◌, ℕ, zero, suc, length, get_or, take, drop, List, [], ◌∷◌, ◌++◌, Bool, true, false, ◌&&◌, Ordering, Less, Equal, Greater, true≢false, string_bytes, string_cmp, refl, ap, ◌∙◌, sym, arith}
use Rattle.std.proofs.lemmas.Cmp.{nat_list_cmp_total}
use Rattle.std.specs.Cmp.Lexicographic.{slice_cmp}
use Rattle.std.specs.List.Sorted.{IsStrictlySortedBy}
use Rattle.std.specs.Map.{keys_of}
use Rattle.std.specs.Ordering.{nat_cmp, match_ordering, ordering_reverse}
use Rattle.serde_json.specs.Data.{member, put}
use Rattle.serde_json.proofs.Views.{Entry}
use Rattle.sp_value.specs.Json.{data_of, pairs_data}
use Rattle.sp_value.specs.Names.{is_below, rise, names_of, values_of}
use Rattle.sp_value.specs.declared.cell.Cell.{Cell}

-- the names of a map's entries
abbrev pub names_in : List Entry → List (List ℕ)
names_in [] = []
names_in (e ∷ es) = string_bytes e.0 ∷ names_in es

and_both : (a b : Bool) → a ≡ true → b ≡ true → (a && b) ≡ true
and_both a b p q = rw (p, q) refl

and_first : (a b : Bool) → (a && b) ≡ true → a ≡ true
and_first a b h = grind arith

and_second : (a b : Bool) → (a && b) ≡ true → b ≡ true
and_second a b h = grind arith

pub names_rise : (es : List Entry) → IsStrictlySortedBy string_cmp (keys_of es) → rise (names_in es) ≡ true
unfolding IsStrictlySortedBy
names_rise [] h = refl
names_rise (e ∷ []) h = refl
names_rise (e ∷ f ∷ es) h = and_both (is_below (string_bytes e.0) (string_bytes f.0)) (rise (names_in (f ∷ es))) (ap (λ o. match_ordering o true false false) h.0.0) (names_rise (f ∷ es) h.1)

less_at : (o : Ordering) → match_ordering o true false false ≡ true → o ≡ Less
less_at Less h = refl
less_at Equal h = absurd (true≢false (sym h))
less_at Greater h = absurd (true≢false (sym h))

less : (x y : List ℕ) → is_below x y ≡ true → slice_cmp nat_cmp x y ≡ Less
less x y h = less_at (slice_cmp nat_cmp x y) h

rise_first : (x y : List ℕ) (more : List (List ℕ)) → rise (x ∷ y ∷ more) ≡ true → is_below x y ≡ true
rise_first x y more h = and_first (is_below x y) (rise (y ∷ more)) h

rise_rest : (x : List ℕ) (xs : List (List ℕ)) → rise (x ∷ xs) ≡ true → rise xs ≡ true
rise_rest x [] h = refl
rise_rest x (y ∷ more) h = and_second (is_below x y) (rise (y ∷ more)) h

below_last : (x : List ℕ) (xs : List (List ℕ)) (y : List ℕ) (more : List (List ℕ)) → rise (x ∷ (xs ++ y ∷ more)) ≡ true → slice_cmp nat_cmp x y ≡ Less
below_last x [] y more h = less x y (rise_first x y more h)
below_last x (z ∷ xs) y more h = nat_list_cmp_total.trans x z y (less x z (rise_first x z (xs ++ y ∷ more) h)) (below_last z xs y more (rise_rest x (z ∷ (xs ++ y ∷ more)) h))

names_of_append : (ms : List (List ℕ × Cell)) (m : List ℕ × Cell) (more : List (List ℕ × Cell)) → names_of (ms ++ m ∷ more) ≡ names_of ms ++ m.0 ∷ names_of more
names_of_append [] m more = refl
names_of_append (n ∷ ms) m more = ap (λ ns. n.0 ∷ ns) (names_of_append ms m more)

-- a member whose name is above those before it goes last
pub put_last : (done : List (List ℕ × Cell)) (m : List ℕ × Cell) (more : List (List ℕ × Cell)) → rise (names_of (done ++ m ∷ more)) ≡ true
    → put m.0 (data_of m.1) (pairs_data done) ≡ pairs_data (done ++ m ∷ [])
put_last [] m more h = refl
put_last (first ∷ done) m more h =
    let below : slice_cmp nat_cmp first.0 m.0 ≡ Less = below_last first.0 (names_of done) m.0 (names_of more) (ap (λ ns. rise (first.0 ∷ ns)) (sym (names_of_append done m more)) ∙ h) in
    let above : slice_cmp nat_cmp m.0 first.0 ≡ Greater = nat_list_cmp_total.antisymm m.0 first.0 ∙ ap ordering_reverse below in
    rw above (ap (member first.0 (data_of first.1)) (put_last done m more (rise_rest first.0 (names_of (done ++ m ∷ more)) h)))

-- the members up to a place, that one and those after it
pub at_place : (ms : List (List ℕ × Cell)) (i : ℕ) (n : List ℕ) (x : Cell) → i < length ms → n ≡ get_or (names_of ms) i n → x ≡ get_or (values_of ms) i x
    → (take i ms ++ (n, x) ∷ drop (suc i) ms ≡ ms) × (take (suc i) ms ≡ take i ms ++ (n, x) ∷ [])
at_place [] i n x h p q = absurd (omega arith)
at_place (m ∷ ms) zero n x h p q = (rw (p, q) refl, rw (p, q) refl)
at_place (m ∷ ms) (suc i) n x h p q = let r = at_place ms i n x (omega arith) p q in (ap (λ l. m ∷ l) r.0, ap (λ l. m ∷ l) r.1)
