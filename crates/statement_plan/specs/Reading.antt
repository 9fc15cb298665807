-- What the conjuncts of a statement say of a source.
use Rattle.std.specs.Prelude.{ℕ, Bool, true, false, nat_lt, List, Option, None, option_map, if◌then◌else◌}
use Rattle.std.specs.Option.{option_or}
use Rattle.sp_value.specs.declared.cell.Cell.{Cell}
use Rattle.sp_value.specs.declared.cell.Cell.TheOpen.{Cell-F}
use Rattle.sp_value.specs.declared.cell.Cell.TheViews.{out-Cell}
use Rattle.sp_value.specs.declared.truth.Op.{Op}
use Rattle.sp_value.specs.declared.truth.Op.TheVariants as op
use Rattle.sp_model.specs.Keys.{same_operator}
use Rattle.source_scans.specs.declared.source.PlanCondition.{PlanCondition}
use Rattle.source_scans.specs.declared.source.PlanOperand.TheVariants as plan
use Rattle.column_tests.specs.declared.test.Question.{Question}
use Rattle.column_tests.specs.declared.test.Question.TheVariants as question
use Rattle.column_tests.specs.declared.test.Test.{Test}
use Rattle.column_tests.specs.declared.test.Test.TheOpen.{Test-F}
use Rattle.column_tests.specs.declared.test.Test.TheViews.{out-Test}
use Rattle.column_tests.specs.declared.test.Operand.{Operand}
use Rattle.column_tests.specs.declared.test.Operand.TheVariants as operand
use Rattle.sql_bind.specs.declared.bound.BoundSource.{BoundSource}
use Rattle.sql_bind.specs.declared.bound.Column.{Column}
use Rattle.statement_plan.specs.Columns.{name_within, place_of}

abbrev pub is_null_at : Cell-F Cell → Bool
is_null_at Cell-F.Null = true
is_null_at _ = false

abbrev pub is_null : Cell → Bool
is_null x = is_null_at (out-Cell x)

-- the operator that says the same with its operands turned round
abbrev pub turned : Op → Op
turned op.Eq = op.Eq
turned op.Ne = op.Ne
turned op.Lt = op.Gt
turned op.Le = op.Ge
turned op.Gt = op.Lt
turned op.Ge = op.Le

module _ (sources : List BoundSource) (layout : List (List (List ℕ))) (k : ℕ) where
  -- a column of the source and a literal that isn't null
  abbrev pub with_literal : Column → Op → Cell → Option PlanCondition
  with_literal c o x =
      if is_null x then None else option_map (λ name. record { column = name; operator = o; operand = plan.Literal x }) (name_within sources k c)

  -- a column of the source and one of an earlier source
  abbrev pub with_left : Column → Column → Option PlanCondition
  with_left c d =
      if nat_lt d.source k
      then option_map (λ name. record { column = name; operator = op.Eq; operand = plan.Left (place_of sources layout d) }) (name_within sources k c)
      else None

  abbrev pub of_columns : Op → Column → Column → Option PlanCondition
  of_columns o c d = if same_operator o op.Eq then option_or (with_left c d) (with_left d c) else None

  -- in either order
  abbrev pub compared : Operand Column → Op → Operand Column → Option PlanCondition
  compared (operand.Column c) o (operand.Column d) = of_columns o c d
  compared (operand.Column c) o (operand.Literal x) = with_literal c o x
  compared (operand.Literal x) o (operand.Column c) = with_literal c (turned o) x
  compared (operand.Literal x) o (operand.Literal y) = None

  abbrev pub asked_condition : Operand Column → Question Column → Option PlanCondition
  asked_condition of (question.Compares o with) = compared of o with
  asked_condition of question.Truth = None
  asked_condition of (question.IsIn negated list) = None
  asked_condition of (question.IsNull negated) = None

  abbrev pub condition_layer : Test-F Column (Test Column) → Option PlanCondition
  condition_layer (Test-F.Asks of question) = asked_condition of question
  condition_layer (Test-F.Or es) = None
  condition_layer (Test-F.And es) = None
  condition_layer (Test-F.Not e) = None

  -- the condition on the k-th source that a conjunct is: it compares a column of the source with a literal that isn't null, or equals it with
  -- a column of an earlier source
  abbrev pub condition_of : Test Column → Option PlanCondition
  condition_of e = condition_layer (out-Test Column e)

-- ---- lists of values

module _ (sources : List BoundSource) (k : ℕ) where
  abbrev pub asked_list : Operand Column → Question Column → Option (List ℕ × List Cell)
  asked_list (operand.Column c) (question.IsIn false list) = option_map (λ name. (name, list)) (name_within sources k c)
  asked_list _ _ = None

  abbrev pub list_layer : Test-F Column (Test Column) → Option (List ℕ × List Cell)
  list_layer (Test-F.Asks of question) = asked_list of question
  list_layer (Test-F.Or es) = None
  list_layer (Test-F.And es) = None
  list_layer (Test-F.Not e) = None

  -- the column of the k-th source whose values a conjunct lists, without `not`, and these values
  abbrev pub list_of : Test Column → Option (List ℕ × List Cell)
  list_of e = list_layer (out-Test Column e)
