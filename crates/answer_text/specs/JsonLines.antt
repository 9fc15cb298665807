-- Lines of compact JSON.
use Rattle.std.specs.Prelude.{ℕ, List, [], ◌∷◌, ◌++◌, map, codes}
use Rattle.serde_json.specs.Data.{Data, number, string, array, object, unsigned}
use Rattle.serde_json.specs.View.{items_of}
use Rattle.serde_json.specs.Written.{compact_text}
use Rattle.sp_value.specs.Json.{cells_data, members_from}
use Rattle.sp_value.specs.declared.cell.Cell.{Cell}

abbrev pub natural : ℕ → Data
natural n = number (unsigned n)

abbrev pub texts_data : List (List ℕ) → Data
texts_data texts = array (items_of (map string texts))

abbrev pub row_data : List Cell → Data
row_data row = array (cells_data row)

abbrev pub rows_data : List (List Cell) → Data
rows_data rows = array (items_of (map row_data rows))

-- the names of columns, and the rows
abbrev pub answer_data : List (List ℕ) → List (List Cell) → Data
answer_data names rows = object (members_from ((codes "columns", texts_data names) ∷ (codes "rows", rows_data rows) ∷ []))

-- a line of compact JSON
abbrev pub json_line : Data → List ℕ
json_line d = compact_text d ++ codes "\n"

abbrev pub json_text : List (List ℕ) → List (List Cell) → List ℕ
json_text names rows = json_line (answer_data names rows)
