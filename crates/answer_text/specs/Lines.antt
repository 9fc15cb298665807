-- Rows as lines.
use Rattle.std.specs.Prelude.{ℕ, ◌+◌, max, List, [], ◌∷◌, ◌++◌, map, fold, codes, decimal}
use Rattle.sp_value.specs.declared.cell.Cell.{Cell}
use Rattle.sp_value.specs.declared.kind.Kind.{Kind}
use Rattle.answer_text.specs.Columns.{escaped, characters, filled, shown}

-- the greatest number of characters of a name
abbrev pub widest_of : List (List ℕ) → ℕ
widest_of names = fold max 0 (map (λ name. characters (escaped name)) names)

-- a line for each cell, behind its name
abbrev pub cell_lines : ℕ → List (List ℕ) → List Kind → List Cell → List ℕ
cell_lines widest (n ∷ ns) (k ∷ ks) (c ∷ cs) = filled widest (escaped n) ++ (codes " = " ++ (shown k c ++ (codes "\n" ++ cell_lines widest ns ks cs)))
cell_lines widest _ _ _ = []

abbrev pub record_head : ℕ → List ℕ
record_head number = codes "-[ RECORD " ++ (decimal number ++ codes " ]-\n")

-- the lines of each row, counted on from those that were counted
abbrev pub records_from : ℕ → ℕ → List (List ℕ) → List Kind → List (List Cell) → List ℕ
records_from counted widest names kinds [] = []
records_from counted widest names kinds (row ∷ rows) = record_head (counted + 1) ++ (cell_lines widest names kinds row ++ records_from (counted + 1) widest names kinds rows)

-- the lines of the rows, or one that says that there are none
abbrev pub line_text : List (List ℕ) → List Kind → List (List Cell) → List ℕ
line_text names kinds [] = codes "no rows\n"
line_text names kinds (row ∷ rows) = records_from 0 (widest_of names) names kinds (row ∷ rows)
