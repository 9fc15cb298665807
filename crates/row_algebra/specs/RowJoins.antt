-- Rows that are joined.
use Rattle.std.specs.Prelude.{◌≡◌, ℕ, List, [], ◌∷◌, ◌++◌, map, unwrap_or, slice_get}
use Rattle.std.specs.List.{flat_map}
use Rattle.sp_value.specs.declared.cell.Cell.{Cell}

-- the rows of the result at a place; none past the last
abbrev pub rows_at : List (List (List Cell)) → ℕ → List (List Cell)
rows_at right place = unwrap_or (slice_get right place) []

-- a left row followed by each row of each of its results
abbrev pub followed : List (List (List Cell)) → List Cell → List ℕ → List (List Cell)
followed right left places = flat_map (λ place. map (λ row. left ++ row) (rows_at right place)) places

-- left rows, each followed by the rows of the results at its places; one without places gives none
unfoldable pub joined : List (List Cell) → List (List ℕ) → List (List (List Cell)) → List (List Cell)
joined [] picks right = []
joined (left ∷ lefts) [] right = []
joined (left ∷ lefts) (places ∷ picks) right = followed right left places ++ joined lefts picks right

-- there is one result, and its rows are the joined rows
pub record IsAlone (left : List (List Cell)) (picks : List (List ℕ)) (right : List (List (List Cell))) : Type 0 where
  pub rows : List (List Cell)
  pub one : right ≡ rows ∷ []
  pub same : joined left picks right ≡ rows
