-- The columns that a statement names, and where they stand in its rows.
use Rattle.std.specs.Prelude.{ℕ, zero, suc, ◌+◌, ◌==◌, List, [], ◌∷◌, ◌++◌, map, length, slice_get, unwrap_or, bytes_eq, Option, None, option_map, option_and_then, if◌then◌else◌}
use Rattle.std.specs.List.{flat_map, filter_map, position_or_len}
use Rattle.std.specs.Option.{option_map_or}
use Rattle.sp_model.specs.RowOf.{names_of_columns, columns_named}
use Rattle.sp_model.specs.declared.declaration.ColumnDecl.{ColumnDecl}
use Rattle.sp_model.specs.declared.declaration.TableDecl.{TableDecl}
use Rattle.sql_bind.specs.declared.bound.Bound.{Bound}
use Rattle.column_tests.specs.declared.test.Question.{Question}
use Rattle.column_tests.specs.declared.test.Question.TheVariants as question
use Rattle.column_tests.specs.declared.test.Test.{Test, fold-Test}
use Rattle.column_tests.specs.declared.test.Test.TheOpen.{Test-F}
use Rattle.column_tests.specs.declared.test.Operand.{Operand}
use Rattle.column_tests.specs.declared.test.Operand.TheVariants as operand
use Rattle.sql_bind.specs.declared.bound.BoundSource.{BoundSource}
use Rattle.sql_bind.specs.declared.bound.Column.{Column}

-- ---- the columns that are named

abbrev pub operand_columns : Operand Column → List Column
operand_columns (operand.Column c) = c ∷ []
operand_columns (operand.Literal x) = []

abbrev pub asked_columns : Question Column → List Column
asked_columns question.Truth = []
asked_columns (question.Compares op with) = operand_columns with
asked_columns (question.IsIn negated list) = []
asked_columns (question.IsNull negated) = []

abbrev pub columns_layer : Test-F Column (List Column) → List Column
columns_layer (Test-F.Or columns) = flat_map (λ cs. cs) columns
columns_layer (Test-F.And columns) = flat_map (λ cs. cs) columns
columns_layer (Test-F.Not columns) = columns
columns_layer (Test-F.Asks of question) = operand_columns of ++ asked_columns question

-- the columns that a condition reads
unfoldable pub columns_of : Test Column → List Column
columns_of = fold-Test Column (List Column) columns_layer

abbrev pub columns_in : Option (Test Column) → List Column
columns_in e = option_map_or columns_of e []

-- what is shown, what every `on` and `where` read, and what the order compares
abbrev pub named : Bound → List Column
named b = map (λ i. i.column) b.shown ++ (flat_map (λ s. columns_in s.on) b.sources ++ (columns_in b.test ++ map (λ k. k.column) b.order))

-- ---- the columns that the rows of a source have

abbrev pub column_in : Column → BoundSource → Option (List ℕ)
column_in c s = option_map (λ (d : ColumnDecl). d.name) (slice_get s.table.columns c.column)

abbrev pub column_name : List BoundSource → Column → Option (List ℕ)
column_name sources c = option_and_then (column_in c) (slice_get sources c.source)

abbrev pub name_within : List BoundSource → ℕ → Column → Option (List ℕ)
name_within sources k c = if c.source == k then column_name sources c else None

-- the names of those columns that are of the k-th source
abbrev pub names_within : List BoundSource → ℕ → List Column → List (List ℕ)
names_within sources k columns = filter_map (name_within sources k) columns

-- the named columns of a source, in the order of its table
abbrev pub columns_for : List BoundSource → List Column → ℕ → TableDecl → List (List ℕ)
columns_for sources named k table = names_of_columns (columns_named (names_within sources k named) table.columns)

abbrev pub layout_from : List BoundSource → List Column → ℕ → List BoundSource → List (List (List ℕ))
layout_from sources named k [] = []
layout_from sources named k (s ∷ ss) = columns_for sources named k s.table ∷ layout_from sources named (k + 1) ss

-- the columns of each source's rows
abbrev pub layout_of : Bound → List (List (List ℕ))
layout_of b = layout_from b.sources (named b) 0 b.sources

-- ---- places

-- the place of a source's column in the rows of all sources beside each other
abbrev pub place_in : List (List (List ℕ)) → ℕ → List ℕ → ℕ
place_in [] k name = 0
place_in (columns ∷ later) zero name = position_or_len (bytes_eq name) columns
place_in (columns ∷ later) (suc k) name = length columns + place_in later k name

abbrev pub place_of : List BoundSource → List (List (List ℕ)) → Column → ℕ
place_of sources layout c = place_in layout c.source (unwrap_or (column_name sources c) [])
