-- A scan that was found keeps its place while others are found.
use Rattle.std.proofs.Common.{◌≡◌, ℕ, ◌+◌, ◌<◌, drop, get_or, ◌==◌, Bool, true, false, ◌||◌, not, List, [], ◌∷◌, ◌++◌, map, cond, refl, sym, ap, ◌∙◌, length, arith}
use Rattle.std.proofs.lemmas.Grind.{common_steps}
use Rattle.std.proofs.lemmas.List.{append_assoc, drop_more}
use Rattle.std.proofs.lemmas.List.Folds.{list_any-append, position_or_len_push}
use Rattle.std.specs.List.{list_any, position_or_len}
use Rattle.source_scans.specs.Asking.{same_unit, with_unit, each_once, place_of}
use Rattle.source_scans.specs.SameUnits.{same_unit_equivalence}
use Rattle.source_scans.specs.declared.unit_scan.UnitScan.{UnitScan}

abbrev there : UnitScan → List UnitScan → Bool
there u found = list_any (same_unit u) found

or_left : (a b : Bool) → a ≡ true → (a || b) ≡ true
or_left true b h = refl
or_left false b h = cc

or_right : (a b : Bool) → b ≡ true → (a || b) ≡ true
or_right true b h = refl
or_right false b h = h

there_before : (u : UnitScan) (found more : List UnitScan) → there u found ≡ true → there u (found ++ more) ≡ true
there_before u found more h = list_any-append (same_unit u) found more ∙ or_left (there u found) (there u more) h

-- ---- places

front_by : {X : Type 0} (p : X → Bool) (x : X) (xs more : List X) (b : Bool) → p x ≡ b → (b || list_any p xs) ≡ true
    → (list_any p xs ≡ true → position_or_len p (xs ++ more) ≡ position_or_len p xs)
    → cond (not b) (1 + position_or_len p (xs ++ more)) 0 ≡ cond (not b) (1 + position_or_len p xs) 0
front_by p x xs more true e h k = refl
front_by p x xs more false e h k = ap (λ n. 1 + n) (k h)

front : {X : Type 0} (p : X → Bool) (xs more : List X) → list_any p xs ≡ true → position_or_len p (xs ++ more) ≡ position_or_len p xs
front p [] more h = cc
front p (x ∷ xs) more h = front_by p x xs more (p x) refl h (front p xs more)

at_end_by : (place len : ℕ) (b : Bool) → b ≡ true → cond (place == len) (len + cond b 0 1) place ≡ place
at_end_by place len b h = grind (arith, common_steps)

-- one more scan at the end doesn't move it, also where it is that one
at_end : (u : UnitScan) (found : List UnitScan) → place_of (found ++ u ∷ []) u ≡ place_of found u
at_end u found = position_or_len_push (same_unit u) found u ∙ at_end_by (place_of found u) (length found) (same_unit u u) (same_unit_equivalence.refl u)

place_with_by : (u : UnitScan) (found : List UnitScan) (b : Bool) → place_of (cond b found (found ++ u ∷ [])) u ≡ place_of found u
place_with_by u found true = refl
place_with_by u found false = at_end u found

place_with : (u : UnitScan) (found : List UnitScan) → place_of (with_unit found u) u ≡ place_of found u
place_with u found = place_with_by u found (there u found)

there_with_by : (u : UnitScan) (found : List UnitScan) (b : Bool) → there u found ≡ b → there u (cond b found (found ++ u ∷ [])) ≡ true
there_with_by u found true e = e
there_with_by u found false e =
    list_any-append (same_unit u) found (u ∷ []) ∙ or_right (there u found) (same_unit u u || false) (or_left (same_unit u u) false (same_unit_equivalence.refl u))

there_with : (u : UnitScan) (found : List UnitScan) → there u (with_unit found u) ≡ true
there_with u found = there_with_by u found (there u found) refl

there_more_by : (u v : UnitScan) (found : List UnitScan) (b : Bool) → there u found ≡ true → there u (cond b found (found ++ v ∷ [])) ≡ true
there_more_by u v found true h = h
there_more_by u v found false h = there_before u found (v ∷ []) h

there_more : (u v : UnitScan) (found : List UnitScan) → there u found ≡ true → there u (with_unit found v) ≡ true
there_more u v found h = there_more_by u v found (there v found) h

place_more_by : (u v : UnitScan) (found : List UnitScan) (b : Bool) → there u found ≡ true → place_of (cond b found (found ++ v ∷ [])) u ≡ place_of found u
place_more_by u v found true h = refl
place_more_by u v found false h = front (same_unit u) found (v ∷ []) h

place_more : (u v : UnitScan) (found : List UnitScan) → there u found ≡ true → place_of (with_unit found v) u ≡ place_of found u
place_more u v found h = place_more_by u v found (there v found) h

there_later : (u : UnitScan) (found us : List UnitScan) → there u found ≡ true → there u (each_once found us) ≡ true
there_later u found [] h = h
there_later u found (v ∷ us) h = there_later u (with_unit found v) us (there_more u v found h)

place_later : (u : UnitScan) (found us : List UnitScan) → there u found ≡ true → place_of (each_once found us) u ≡ place_of found u
place_later u found [] h = refl
place_later u found (v ∷ us) h = place_later u (with_unit found v) us (there_more u v found h) ∙ place_more u v found h

-- the place of a scan as it is found is its place among all
pub place_found : (u : UnitScan) (found us : List UnitScan) → place_of found u ≡ place_of (each_once found (u ∷ us)) u
place_found u found us = sym (place_later u (with_unit found u) us (there_with u found) ∙ place_with u found)

-- ---- rows

pub each_once_append : (found us vs : List UnitScan) → each_once found (us ++ vs) ≡ each_once (each_once found us) vs
each_once_append found [] vs = refl
each_once_append found (u ∷ us) vs = each_once_append (with_unit found u) us vs

-- so are the places of a row's scans
pub places_found : (found us vs : List UnitScan) → map (place_of (each_once found us)) us ≡ map (place_of (each_once found (us ++ vs))) us
places_found found [] vs = refl
places_found found (u ∷ us) vs =
    ap (λ n. n ∷ map (place_of (each_once (with_unit found u) us)) us) (sym (place_found u found us) ∙ place_found u found (us ++ vs))
    ∙ ap (λ ns. place_of (each_once found (u ∷ (us ++ vs))) u ∷ ns) (places_found (with_unit found u) us vs)

-- ---- one more, of a list that is left

pub rest_is : {A : Type 0} (xs : List A) (n : ℕ) (x : A) → n < length xs → x ≡ get_or xs n x → drop n xs ≡ x ∷ drop (n + 1) xs
rest_is xs n x within is = drop_more xs n x within ∙ ap (λ y. y ∷ drop (n + 1) xs) (sym is)

pub place_turn : (all found rest : List UnitScan) (u : UnitScan) (places want : List ℕ) (place : ℕ) → each_once found (u ∷ rest) ≡ all → place ≡ place_of found u
    → places ++ map (place_of all) (u ∷ rest) ≡ want → (places ++ place ∷ []) ++ map (place_of all) rest ≡ want
place_turn all found rest u places want place e is h =
    append_assoc places (place ∷ []) (map (place_of all) rest)
    ∙ ap (λ n. places ++ n ∷ map (place_of all) rest) (is ∙ place_found u found rest ∙ ap (λ scans. place_of scans u) e) ∙ h

pub row_turn : (all found units later : List UnitScan) (places : List ℕ) (picks more want : List (List ℕ)) → each_once found (units ++ later) ≡ all
    → places ≡ map (place_of (each_once found units)) units → picks ++ map (place_of all) units ∷ more ≡ want → (picks ++ places ∷ []) ++ more ≡ want
row_turn all found units later places picks more want e is h =
    append_assoc picks (places ∷ []) more
    ∙ ap (λ ns. picks ++ ns ∷ more) (is ∙ places_found found units later ∙ ap (λ scans. map (place_of scans) units) e) ∙ h
