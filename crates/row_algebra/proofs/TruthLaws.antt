-- What is said of each form of condition.
use Rattle.std.proofs.Common.{◌≡◌, ℕ, List, map, refl}
use Rattle.sp_value.specs.declared.cell.Cell.{Cell}
use Rattle.sp_value.specs.declared.truth.Truth.{Truth}
use Rattle.sp_value.specs.declared.truth.Truth.TheVariants.{Yes, No, Unknown}
use Rattle.column_tests.proofs.TestLaws.{fold_or, fold_and, fold_not, fold_asks}
use Rattle.column_tests.specs.declared.test.Operand.{Operand}
use Rattle.column_tests.specs.declared.test.Question.{Question}
use Rattle.column_tests.specs.declared.test.Test.{Test}
use Rattle.column_tests.specs.declared.test.Test.TheVariants as t
use Rattle.row_algebra.specs.RowTruth.{truth_of, truth_layer, any_of, all_of, both, either, opposite, asked_truth, value_of}

pub truth_or : (row : List Cell) (xs : List (Test ℕ)) → truth_of row (t.Or xs) ≡ any_of (map (truth_of row) xs)
unfolding truth_of
truth_or row xs = fold_or (truth_layer row) xs

pub truth_and : (row : List Cell) (xs : List (Test ℕ)) → truth_of row (t.And xs) ≡ all_of (map (truth_of row) xs)
unfolding truth_of
truth_and row xs = fold_and (truth_layer row) xs

pub truth_not : (row : List Cell) (x : Test ℕ) → truth_of row (t.Not x) ≡ opposite (truth_of row x)
unfolding truth_of
truth_not row x = fold_not (truth_layer row) x

pub truth_asks : (row : List Cell) (of : Operand ℕ) (question : Question ℕ) → truth_of row (t.Asks of question) ≡ asked_truth row (value_of row of) question
unfolding truth_of
truth_asks row of question = fold_asks (truth_layer row) of question

pub ruleset laws = (truth_or, truth_and, truth_not, truth_asks)

pub both_assoc : (a b d : Truth) → both (both a b) d ≡ both a (both b d)
both_assoc No b d = refl
both_assoc Yes b d = refl
both_assoc Unknown No d = refl
both_assoc Unknown Yes d = refl
both_assoc Unknown Unknown No = refl
both_assoc Unknown Unknown Yes = refl
both_assoc Unknown Unknown Unknown = refl

pub either_assoc : (a b d : Truth) → either (either a b) d ≡ either a (either b d)
either_assoc Yes b d = refl
either_assoc No b d = refl
either_assoc Unknown Yes d = refl
either_assoc Unknown No d = refl
either_assoc Unknown Unknown Yes = refl
either_assoc Unknown Unknown No = refl
either_assoc Unknown Unknown Unknown = refl

pub both_yes : (a : Truth) → both a Yes ≡ a
both_yes Yes = refl
both_yes No = refl
both_yes Unknown = refl

pub either_no : (a : Truth) → either a No ≡ a
either_no Yes = refl
either_no No = refl
either_no Unknown = refl
