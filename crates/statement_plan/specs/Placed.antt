-- Conditions, order and shown columns by the places of columns.
use Rattle.std.specs.Prelude.{ℕ, max, List, [], ◌∷◌}
use Rattle.column_tests.specs.declared.test.Operand.{Operand}
use Rattle.column_tests.specs.declared.test.Operand.TheVariants as operand
use Rattle.column_tests.specs.declared.test.Question.{Question}
use Rattle.column_tests.specs.declared.test.Question.TheVariants as question
use Rattle.column_tests.specs.declared.test.Test.{Test, fold-Test}
use Rattle.column_tests.specs.declared.test.Test.TheOpen.{Test-F}
use Rattle.column_tests.specs.declared.test.Test.TheVariants as test
use Rattle.row_algebra.specs.declared.ordering.OrderKey.{OrderKey}
use Rattle.sql_bind.specs.declared.bound.BoundItem.{BoundItem}
use Rattle.sql_bind.specs.declared.bound.BoundKey.{BoundKey}
use Rattle.sql_bind.specs.declared.bound.BoundSource.{BoundSource}
use Rattle.sql_bind.specs.declared.bound.Column.{Column}
use Rattle.statement_plan.specs.Columns.{place_of, columns_of}

module _ (sources : List BoundSource) (layout : List (List (List ℕ))) where
  abbrev pub placed_operand : Operand Column → Operand ℕ
  placed_operand (operand.Column c) = operand.Column (place_of sources layout c)
  placed_operand (operand.Literal x) = operand.Literal x

  abbrev pub placed_asked : Question Column → Question ℕ
  placed_asked question.Truth = question.Truth
  placed_asked (question.Compares op with) = question.Compares op (placed_operand with)
  placed_asked (question.IsIn negated list) = question.IsIn negated list
  placed_asked (question.IsNull negated) = question.IsNull negated

  abbrev pub placed_layer : Test-F Column (Test ℕ) → Test ℕ
  placed_layer (Test-F.Or ts) = test.Or ts
  placed_layer (Test-F.And ts) = test.And ts
  placed_layer (Test-F.Not t) = test.Not t
  placed_layer (Test-F.Asks of question) = test.Asks (placed_operand of) (placed_asked question)

  -- the condition on rows
  unfoldable pub placed_test : Test Column → Test ℕ
  placed_test = fold-Test Column (Test ℕ) placed_layer

  abbrev pub placed_key : BoundKey → OrderKey
  placed_key k = record { column = place_of sources layout k.column; down = k.down }

  abbrev pub placed_item : BoundItem → ℕ
  placed_item i = place_of sources layout i.column

-- the greatest of the sources of some columns; the first where there are none
abbrev pub last_of : List Column → ℕ
last_of [] = 0
last_of (c ∷ cs) = max c.source (last_of cs)

-- the source whose rows a conjunct waits for
abbrev pub last_source : Test Column → ℕ
last_source e = last_of (columns_of e)
