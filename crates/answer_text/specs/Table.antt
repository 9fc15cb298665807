-- Rows as a table.
use Rattle.std.specs.Prelude.{ℕ, ◌+◌, max, List, [], ◌∷◌, ◌++◌, map, fold, codes, replicate, slice_get, Option, Some, None}
use Rattle.sp_value.specs.declared.cell.Cell.{Cell}
use Rattle.sp_value.specs.declared.kind.Kind.{Kind}
use Rattle.answer_text.specs.Columns.{escaped, characters, filled, shown}

abbrev pub shown_width : Kind → Option Cell → ℕ
shown_width kind (Some c) = characters (shown kind c)
shown_width kind None = 0

-- the greatest number of characters of a column's name and of its cells
abbrev pub column_width : ℕ → List ℕ → Kind → List (List Cell) → ℕ
column_width place name kind rows = fold max (characters (escaped name)) (map (λ row. shown_width kind (slice_get row place)) rows)

-- the widths of columns from a place on
abbrev pub widths_from : ℕ → List (List ℕ) → List Kind → List (List Cell) → List ℕ
widths_from place (n ∷ ns) (k ∷ ks) rows = column_width place n k rows ∷ widths_from (place + 1) ns ks rows
widths_from place _ _ rows = []

abbrev pub widths_of : List (List ℕ) → List Kind → List (List Cell) → List ℕ
widths_of names kinds rows = widths_from 0 names kinds rows

-- what stands behind the first `+` of a border
abbrev pub border_rest : List ℕ → List ℕ
border_rest [] = codes "\n"
border_rest (w ∷ ws) = codes "-" ++ (replicate w 45 ++ (codes "-+" ++ border_rest ws))

abbrev pub border : List ℕ → List ℕ
border widths = codes "+" ++ border_rest widths

-- what stands behind the first `|` of the names
abbrev pub names_rest : List ℕ → List (List ℕ) → List ℕ
names_rest (w ∷ ws) (n ∷ ns) = codes " " ++ (filled w (escaped n) ++ (codes " |" ++ names_rest ws ns))
names_rest _ _ = codes "\n"

-- what stands behind the first `|` of a row
abbrev pub cells_rest : List ℕ → List Kind → List Cell → List ℕ
cells_rest (w ∷ ws) (k ∷ ks) (c ∷ cs) = codes " " ++ (filled w (shown k c) ++ (codes " |" ++ cells_rest ws ks cs))
cells_rest _ _ _ = codes "\n"

-- a line for each row
abbrev pub row_lines : List ℕ → List Kind → List (List Cell) → List ℕ
row_lines widths kinds [] = []
row_lines widths kinds (row ∷ rows) = codes "|" ++ (cells_rest widths kinds row ++ row_lines widths kinds rows)

-- a border below rows, where there are any
abbrev pub foot : List ℕ → List (List Cell) → List ℕ
foot widths [] = []
foot widths (row ∷ rows) = border widths

abbrev pub table_in : List ℕ → List (List ℕ) → List Kind → List (List Cell) → List ℕ
table_in widths names kinds rows = border widths ++ (codes "|" ++ (names_rest widths names ++ (border widths ++ (row_lines widths kinds rows ++ foot widths rows))))

-- the names between borders, and the rows
abbrev pub table_text : List (List ℕ) → List Kind → List (List Cell) → List ℕ
table_text names kinds rows = table_in (widths_of names kinds rows) names kinds rows
