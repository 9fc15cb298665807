-- The words of a line.
use Rattle.std.specs.Prelude.{ℕ, ◌-◌, List, [], ◌∷◌, ◌++◌, map, length, slice_get, codes, Option, Some, None}
use Rattle.std.specs.Fmt.{signed_decimal}
use Rattle.sp_value.specs.declared.cell.Cell.{Cell}
use Rattle.sp_value.specs.declared.cell.Cell.TheOpen.{Cell-F}
use Rattle.sp_value.specs.declared.cell.Cell.TheViews.{out-Cell}
use Rattle.sql_lex.specs.Quotes.{quoted}
use Rattle.sql_bind.specs.declared.bound.BoundSource.{BoundSource}
use Rattle.source_scans.specs.declared.source.PlanSource.{PlanSource}
use Rattle.answer_text.specs.Columns.{escaped}
use Rattle.answer_text.specs.Errors.{listed}
use Rattle.answer_text.specs.Spelled.{flag_text}

-- words with a comma and a space between two of them, or that there are none
abbrev pub listed_or_none : List (List ℕ) → List ℕ
listed_or_none [] = codes "none"
listed_or_none (word ∷ words) = listed (word ∷ words)

-- names, with control characters escaped
abbrev pub names_text : List (List ℕ) → List ℕ
names_text names = listed_or_none (map escaped names)

abbrev pub dotted : List ℕ → List ℕ → List ℕ
dotted first second = escaped first ++ (codes "." ++ escaped second)

-- a literal as SQL spells it; lists and objects are none
abbrev pub literal_at : Cell-F Cell → List ℕ
literal_at Cell-F.Null = codes "null"
literal_at (Cell-F.Bool b) = flag_text b
literal_at (Cell-F.Int z) = signed_decimal z
literal_at (Cell-F.Text t) = quoted 39 t
literal_at (Cell-F.List cells) = []
literal_at (Cell-F.Object members) = []

abbrev pub literal_text : Cell → List ℕ
literal_text x = literal_at (out-Cell x)

abbrev pub dotted_or : List ℕ → Option (List ℕ) → List ℕ → List ℕ
dotted_or alias (Some column) later = dotted alias column
dotted_or alias None later = later

-- the cell at a place of the rows of all sources beside each other: its source's alias and its column
abbrev pub cell_text : List BoundSource → List PlanSource → ℕ → List ℕ
cell_text [] ps place = []
cell_text (s ∷ ss) [] place = []
cell_text (s ∷ ss) (p ∷ ps) place = dotted_or s.alias (slice_get p.columns place) (cell_text ss ps (place - length p.columns))
