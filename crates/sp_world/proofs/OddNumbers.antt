-- JSON with a number that is no integer of 64 bits.
use Rattle.std.proofs.Common.{◌≡◌, ◌<◌, ◌^◌, ◌⊎◌, inl, inr, ℕ, pos, List, Bool, true, false, cond, Option, Some, None, is_none, nat_lt, option_map, option_and_then, Ordering, Less, Equal, Greater, subst, refl, sym, ap, ◌∙◌}
use Rattle.std.proofs.lemmas.Bool.{ltb-true}
use Rattle.std.specs.Cmp.Lexicographic.{slice_cmp}
use Rattle.std.specs.Ordering.{nat_cmp, match_ordering}
use Rattle.serde_json.specs.Data.{Num, unsigned, negative, float, Data, null, boolean, number, string, array, object, Members, no_members, member}
use Rattle.serde_json.specs.Find.{as_i64, as_u64, as_number, get, get_member}
use Rattle.sp_value.specs.Json.{has_odd_number, members_odd, cell_of, pairs_of}
use Rattle.sp_value.proofs.JsonLaws.{whole_of_cell, first_false, second_false}
use Rattle.sp_value.specs.declared.cell.Cell.{Cell}
use Rattle.sp_value.specs.declared.cell.Cell as c
use Rattle.sp_world.specs.LineJson.{number_at}

no_cell : (d : Data) (o : Option Cell) → cell_of d ≡ o → has_odd_number d ≡ true → o ≡ None
no_cell d None e h = refl
no_cell d (Some x) e h = let whole = whole_of_cell d x e in cc

-- it is no value
pub odd_no_cell : (d : Data) → has_odd_number d ≡ true → cell_of d ≡ None
odd_no_cell d h = no_cell d (cell_of d) refl h

no_pairs : (ms : Members) (o : Option (List (List ℕ × Cell))) → pairs_of ms ≡ o → members_odd ms ≡ true → o ≡ None
no_pairs ms None e h = refl
no_pairs ms (Some xs) e h = let whole = whole_of_cell (object ms) (c.Object xs) (ap (option_map c.Object) e) in cc

pub odd_no_pairs : (ms : Members) → members_odd ms ≡ true → pairs_of ms ≡ None
odd_no_pairs ms h = no_pairs ms (pairs_of ms) refl h

-- ---- members of JSON whose numbers are integers of 64 bits

by_order : (o : Ordering) (x y : Option Data) (e d : Data) → match_ordering o x (Some e) y ≡ Some d → x ≡ y → (x ≡ Some d) ⊎ (e ≡ d)
by_order Less x y e d h s = inl h
by_order Equal x y e d h s = inr cc
by_order Greater x y e d h s = inl (s ∙ h)

member_whole : (name : List ℕ) (ms : Members) (d : Data) → members_odd ms ≡ false → get_member name ms ≡ Some d → has_odd_number d ≡ false
member_whole name no_members d w h = cc
member_whole name (member k e ms) d w h =
    elim (by_order (slice_cmp nat_cmp name k) (get_member name ms) (get_member name ms) e d h refl) [
      | inl later ↦ member_whole name ms d (second_false (has_odd_number e) (members_odd ms) w) later
      | inr here ↦ ap has_odd_number (sym here) ∙ first_false (has_odd_number e) (members_odd ms) w
    ]

-- a member has such numbers too
pub whole_member : (name : List ℕ) (d e : Data) → has_odd_number d ≡ false → get name d ≡ Some e → has_odd_number e ≡ false
whole_member name null e w h = cc
whole_member name (boolean b) e w h = cc
whole_member name (number n) e w h = cc
whole_member name (string s) e w h = cc
whole_member name (array ds) e w h = cc
whole_member name (object ms) e w h = member_whole name ms e w h

below_of : (m : ℕ) (b : Bool) → nat_lt m (2 ^ 63) ≡ b → is_none (cond b (Some (pos m)) None) ≡ false → m < 2 ^ 63
below_of m true e h = ltb-true m (2 ^ 63) e
below_of m false e h = absurd (cc)

num_below : (x : Num) (n : ℕ) → is_none (as_i64 x) ≡ false → as_u64 x ≡ Some n → n < 2 ^ 63
num_below (unsigned m) n w h = let e : m ≡ n = cc in subst (λ (k : ℕ). k < 2 ^ 63) e (below_of m (nat_lt m (2 ^ 63)) refl w)
num_below (negative z) n w h = absurd (cc)
num_below (float x) n w h = absurd (cc)

data_below : (e : Data) (n : ℕ) → has_odd_number e ≡ false → option_and_then as_u64 (as_number e) ≡ Some n → n < 2 ^ 63
data_below null n w h = absurd (cc)
data_below (boolean b) n w h = absurd (cc)
data_below (number x) n w h = num_below x n w h
data_below (string s) n w h = absurd (cc)
data_below (array ds) n w h = absurd (cc)
data_below (object ms) n w h = absurd (cc)

found_below : (name : List ℕ) (d : Data) (o : Option Data) (n : ℕ) → get name d ≡ o → has_odd_number d ≡ false → option_and_then as_u64 (option_and_then as_number o) ≡ Some n → n < 2 ^ 63
found_below name d None n g w h = absurd (cc)
found_below name d (Some e) n g w h = data_below e n (whole_member name d e w g) h

-- a number under a name is below 2^63
pub number_below : (name : List ℕ) (d : Data) (n : ℕ) → has_odd_number d ≡ false → number_at name d ≡ Some n → n < 2 ^ 63
number_below name d n w h = found_below name d (get name d) n refl w h
