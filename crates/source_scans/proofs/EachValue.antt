-- Values that are put one after another, each once, are the distinct values.
use Rattle.std.proofs.Common.{◌≡◌, Bool, true, false, ◌&&◌, ◌||◌, not, cond, List, [], ◌∷◌, ◌++◌, map, refl, ap, ◌∙◌}
use Rattle.std.proofs.lemmas.List.{append_assoc, map-append}
use Rattle.std.proofs.lemmas.List.Folds.{list_any-append}
use Rattle.std.specs.List.{list_any}
use Rattle.sp_value.specs.declared.cell.Cell.{Cell}
use Rattle.sp_model.specs.Conditions.{is_scalar}
use Rattle.sp_model.specs.Units.{same_scalar, distinct_values}
use Rattle.source_scans.proofs.SameValues.{same_values}
use Rattle.source_scans.specs.Distinct.{same_scalar_value, with_value}
use Rattle.source_scans.specs.declared.distinct.Scalar.{Scalar}

abbrev pub values : List Scalar → List Cell
values found = map (λ s. s.value) found

among : (x : Cell) (found : List Scalar) → list_any (same_scalar_value (record { value = x })) found ≡ list_any (same_scalar x) (values found)
among x [] = refl
among x (s ∷ found) = ap (λ b. b || list_any (same_scalar_value (record { value = x })) found) (same_values x s.value) ∙ ap (λ b. same_scalar x s.value || b) (among x found)

-- what was before counts by its members alone
abbrev Alike : List Cell → List Cell → Type 0
Alike a b = (x : Cell) → list_any (same_scalar x) a ≡ list_any (same_scalar x) b

alike : (a b xs : List Cell) → Alike a b → distinct_values a xs ≡ distinct_values b xs
alike a b [] h = refl
alike a b (x ∷ xs) h =
    ap (λ t. cond (is_scalar x && not t) (x ∷ distinct_values (x ∷ a) xs) (distinct_values a xs)) (h x)
    ∙ ap (λ l. cond (is_scalar x && not (list_any (same_scalar x) b)) (x ∷ l) (distinct_values a xs)) (alike (x ∷ a) (x ∷ b) xs (λ y. ap (λ t. same_scalar y x || t) (h y)))
    ∙ ap (λ l. cond (is_scalar x && not (list_any (same_scalar x) b)) (x ∷ distinct_values (x ∷ b) xs) l) (alike a b xs h)

or_last : (a b : Bool) → (a || (b || false)) ≡ (b || a)
or_last true true = refl
or_last true false = refl
or_last false true = refl
or_last false false = refl

at_end : (before : List Cell) (x : Cell) → Alike (before ++ x ∷ []) (x ∷ before)
at_end before x y = list_any-append (same_scalar y) before (x ∷ []) ∙ or_last (list_any (same_scalar y) before) (same_scalar y x)

turn_by : (found : List Scalar) (x : Cell) (xs : List Cell) (scalar there : Bool)
    → values (cond scalar (cond there found (found ++ record { value = x } ∷ [])) found) ++ distinct_values (values (cond scalar (cond there found (found ++ record { value = x } ∷ [])) found)) xs
    ≡ values found ++ cond (scalar && not there) (x ∷ distinct_values (x ∷ values found) xs) (distinct_values (values found) xs)
turn_by found x xs false there = refl
turn_by found x xs true true = refl
turn_by found x xs true false =
    let after : values (found ++ record { value = x } ∷ []) ≡ values found ++ x ∷ [] = map-append (λ s. s.value) found (record { value = x } ∷ []) in
    ap (λ l. l ++ distinct_values l xs) after
    ∙ append_assoc (values found) (x ∷ []) (distinct_values (values found ++ x ∷ []) xs)
    ∙ ap (λ l. values found ++ x ∷ l) (alike (values found ++ x ∷ []) (x ∷ values found) xs (at_end (values found) x))

-- one value more
pub turn : (found : List Scalar) (x : Cell) (xs : List Cell)
    → values (with_value found x) ++ distinct_values (values (with_value found x)) xs ≡ values found ++ distinct_values (values found) (x ∷ xs)
turn found x xs =
    turn_by found x xs (is_scalar x) (list_any (same_scalar_value (record { value = x })) found)
    ∙ ap (λ t. values found ++ cond (is_scalar x && not t) (x ∷ distinct_values (x ∷ values found) xs) (distinct_values (values found) xs)) (among x found)

-- ---- once more

again_by : (before xs : List Cell) (x : Cell) (b : Bool) → (is_scalar x && not (list_any (same_scalar x) before)) ≡ b
    → distinct_values (x ∷ before) (distinct_values (x ∷ before) xs) ≡ distinct_values (x ∷ before) xs → distinct_values before (distinct_values before xs) ≡ distinct_values before xs
    → distinct_values before (cond b (x ∷ distinct_values (x ∷ before) xs) (distinct_values before xs)) ≡ cond b (x ∷ distinct_values (x ∷ before) xs) (distinct_values before xs)
again_by before xs x true e h k =
    ap (λ b. cond b (x ∷ distinct_values (x ∷ before) (distinct_values (x ∷ before) xs)) (distinct_values before (distinct_values (x ∷ before) xs))) e ∙ ap (λ l. x ∷ l) h
again_by before xs x false e h k = k

-- distinct values are distinct
pub again : (before xs : List Cell) → distinct_values before (distinct_values before xs) ≡ distinct_values before xs
again before [] = refl
again before (x ∷ xs) = again_by before xs x (is_scalar x && not (list_any (same_scalar x) before)) refl (again (x ∷ before) xs) (again before xs)
