-- What a condition says of a row, in three truths.
use Rattle.std.specs.Prelude.{ℕ, Bool, true, false, List, [], ◌∷◌, map, unwrap_or, slice_get}
use Rattle.std.specs.List.{list_all}
use Rattle.sp_value.specs.declared.cell.Cell.{Cell}
use Rattle.sp_value.specs.declared.cell.Cell as c
use Rattle.sp_value.specs.declared.cell.Cell.TheOpen.{Cell-F}
use Rattle.sp_value.specs.declared.cell.Cell.TheViews.{out-Cell}
use Rattle.sp_value.specs.declared.truth.Op.TheVariants as op
use Rattle.sp_value.specs.declared.truth.Truth.{Truth}
use Rattle.sp_value.specs.declared.truth.Truth.TheVariants.{Yes, No, Unknown}
use Rattle.sp_value.specs.Truth.{truth}
use Rattle.column_tests.specs.declared.test.Operand.{Operand}
use Rattle.column_tests.specs.declared.test.Operand.TheVariants as operand
use Rattle.column_tests.specs.declared.test.Question.{Question}
use Rattle.column_tests.specs.declared.test.Question.TheVariants as question
use Rattle.column_tests.specs.declared.test.Test.{Test, fold-Test}
use Rattle.column_tests.specs.declared.test.Test.TheOpen.{Test-F}

-- the value in a column; null past the row's end
abbrev pub cell_at : List Cell → ℕ → Cell
cell_at row column = unwrap_or (slice_get row column) c.Null

abbrev pub value_of : List Cell → Operand ℕ → Cell
value_of row (operand.Column n) = cell_at row n
value_of row (operand.Literal x) = x

-- not
abbrev pub opposite : Truth → Truth
opposite Yes = No
opposite No = Yes
opposite Unknown = Unknown

abbrev pub opposite_if : Bool → Truth → Truth
opposite_if true t = opposite t
opposite_if false t = t

-- and: no where one of the two is, else unknown where one is
abbrev pub both : Truth → Truth → Truth
both No t = No
both Unknown No = No
both Unknown t = Unknown
both Yes t = t

-- or: yes where one of the two is, else unknown where one is
abbrev pub either : Truth → Truth → Truth
either Yes t = Yes
either Unknown Yes = Yes
either Unknown t = Unknown
either No t = t

abbrev pub all_of : List Truth → Truth
all_of [] = Yes
all_of (t ∷ ts) = both t (all_of ts)

abbrev pub any_of : List Truth → Truth
any_of [] = No
any_of (t ∷ ts) = either t (any_of ts)

-- an operand alone: its boolean, and unknown for null and every other value
abbrev pub own_truth_at : Cell-F Cell → Truth
own_truth_at (Cell-F.Bool true) = Yes
own_truth_at (Cell-F.Bool false) = No
own_truth_at _ = Unknown

abbrev pub own_truth : Cell → Truth
own_truth x = own_truth_at (out-Cell x)

-- is null is never unknown
abbrev pub null_truth_at : Cell-F Cell → Truth
null_truth_at Cell-F.Null = Yes
null_truth_at _ = No

abbrev pub null_truth : Cell → Truth
null_truth x = null_truth_at (out-Cell x)

-- x in (a, b) is x = a or x = b
abbrev pub in_truth : Cell → List Cell → Truth
in_truth x list = any_of (map (truth op.Eq x) list)

abbrev pub asked_truth : List Cell → Cell → Question ℕ → Truth
asked_truth row x question.Truth = own_truth x
asked_truth row x (question.Compares o with) = truth o x (value_of row with)
asked_truth row x (question.IsIn negated list) = opposite_if negated (in_truth x list)
asked_truth row x (question.IsNull negated) = opposite_if negated (null_truth x)

abbrev pub truth_layer : List Cell → Test-F ℕ Truth → Truth
truth_layer row (Test-F.Or ts) = any_of ts
truth_layer row (Test-F.And ts) = all_of ts
truth_layer row (Test-F.Not t) = opposite t
truth_layer row (Test-F.Asks of question) = asked_truth row (value_of row of) question

-- the truth of a condition at a row
unfoldable pub truth_of : List Cell → Test ℕ → Truth
truth_of row = fold-Test ℕ Truth (truth_layer row)

abbrev pub is_yes : Truth → Bool
is_yes Yes = true
is_yes No = false
is_yes Unknown = false

-- every test is yes
abbrev pub is_kept : List (Test ℕ) → List Cell → Bool
is_kept tests row = list_all (λ test. is_yes (truth_of row test)) tests
