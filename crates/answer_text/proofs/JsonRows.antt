-- Rows as JSON.
use Rattle.std.proofs.Common.{◌≡◌, ◌≤◌, ◌++◌, ℕ, List, [], ◌∷◌, map, take, length, false, refl, ap, ◌∙◌}
use Rattle.std.proofs.lemmas.List.{take_all, map-append, append_assoc}
use Rattle.serde_json.specs.Data.{Data, array}
use Rattle.serde_json.specs.View.{view, items_of, items_view}
use Rattle.serde_json.specs.Written.{has_float, items_have_float, compact_text, items_text}
use Rattle.serde_json.specs.declared.value.Value.{Value}
use Rattle.sp_value.proofs.JsonLaws.{or_false, first_false, second_false}
use Rattle.sp_value.specs.Json.{data_of}
use Rattle.sp_value.specs.declared.cell.Cell.{Cell}
use Rattle.json.proofs.OnLiterals.{json_on_literals}
use Rattle.std.specs.Prelude.{codes}
use Rattle.answer_text.specs.JsonLines.{row_data, texts_data, json_text}

pub row_is : (vs : List Value) (xs : List Cell) (i : ℕ) → length xs ≤ i → map view vs ≡ map data_of (take i xs) → array (items_view vs) ≡ row_data xs
row_is vs xs i h same = ap (λ ds. array (items_of ds)) same ∙ ap (λ ys. array (items_of (map data_of ys))) (take_all i xs h)

-- one value more without floats
more_data : (ds : List Data) (d : Data) → items_have_float (items_of ds) ≡ false → has_float d ≡ false → items_have_float (items_of (ds ++ d ∷ [])) ≡ false
more_data [] d none whole = or_false (has_float d) false whole refl
more_data (x ∷ xs) d none whole = or_false (has_float x) (items_have_float (items_of (xs ++ d ∷ [])))
    (first_false (has_float x) (items_have_float (items_of xs)) none)
    (more_data xs d (second_false (has_float x) (items_have_float (items_of xs)) none) whole)

pub more_no_float : (vs : List Value) (v : Value) → items_have_float (items_view vs) ≡ false → has_float (view v) ≡ false → items_have_float (items_view (vs ++ v ∷ [])) ≡ false
more_no_float vs v none whole = rw map-append (more_data (map view vs) (view v) none whole)

regroup : (h a m b : List ℕ) → (((h ++ a) ++ m) ++ b) ++ codes "}\n" ≡ (h ++ (a ++ (m ++ (b ++ codes "}")))) ++ codes "\n"
regroup h a m b = simp append_assoc refl

-- the pieces that the line is written in
pub json_parts : (names : List (List ℕ)) (rows : List (List Cell))
    → (((codes "{\"columns\":" ++ compact_text (texts_data names)) ++ codes ",\"rows\":[") ++ items_text false (items_of (map row_data rows))) ++ codes "}\n" ≡ json_text names rows
unfolding json_on_literals
json_parts names rows = regroup (codes "{\"columns\":") (compact_text (texts_data names)) (codes ",\"rows\":[") (items_text false (items_of (map row_data rows)))
