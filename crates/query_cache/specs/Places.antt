-- Cells by their places.
use Rattle.std.specs.Prelude.{ℕ, Bool, List, map, filter, bytes_eq, slice_index_or}
use Rattle.std.specs.List.{list_all, position_or_len}
use Rattle.sp_value.specs.Truth.{truth}
use Rattle.sp_value.specs.declared.cell.Cell.{Cell}
use Rattle.sp_value.specs.declared.cell.Cell as c
use Rattle.sp_model.specs.Covers.{further, cut}
use Rattle.sp_model.specs.Walk.{is_yes}
use Rattle.sp_model.specs.declared.call.Condition.{Condition}
use Rattle.sp_model.specs.declared.scan.ScanRequest.{ScanRequest}
use Rattle.query_cache.specs.declared.placing.PlacedCondition.{PlacedCondition}

-- the place of a name, or how many names there are
abbrev pub place_of : List (List ℕ) → List ℕ → ℕ
place_of names name = position_or_len (λ known. bytes_eq known name) names

-- the cell at a place, null past the end
abbrev pub cell_at : List Cell → ℕ → Cell
cell_at row place = slice_index_or row place c.Null

abbrev pub cells_at : List ℕ → List Cell → List Cell
cells_at places row = map (cell_at row) places

abbrev pub placed_condition : List (List ℕ) → Condition → PlacedCondition
placed_condition names condition = record { place = place_of names condition.column; operator = condition.operator; value = condition.value }

abbrev pub is_true_at : List Cell → PlacedCondition → Bool
is_true_at row condition = is_yes (truth condition.operator (cell_at row condition.place) condition.value)

abbrev pub are_true_at : List PlacedCondition → List Cell → Bool
are_true_at conditions row = list_all (is_true_at row) conditions

-- the rows for which the request's further conditions are true, in its columns, up to its limit
abbrev pub rows_by_places : ScanRequest → List (List Cell) → ScanRequest → List (List Cell)
rows_by_places kept rows request =
    cut request.limit (map (cells_at (map (place_of kept.columns) request.columns)) (filter (are_true_at (map (placed_condition kept.columns) (further kept request))) rows))
