-- Each form of test, on rows.
use Rattle.std.proofs.Common.{◌≡◌, ℕ, List, map}
use Rattle.column_tests.proofs.TestLaws.{fold_or, fold_and, fold_not, fold_asks}
use Rattle.column_tests.specs.declared.test.Operand.{Operand}
use Rattle.column_tests.specs.declared.test.Question.{Question}
use Rattle.column_tests.specs.declared.test.Test.{Test}
use Rattle.column_tests.specs.declared.test.Test.TheVariants as test
use Rattle.sql_bind.specs.declared.bound.BoundSource.{BoundSource}
use Rattle.sql_bind.specs.declared.bound.Column.{Column}
use Rattle.statement_plan.specs.Placed.{placed_test, placed_layer, placed_operand, placed_asked}

pub placed_or : (sources : List BoundSource) (layout : List (List (List ℕ))) (xs : List (Test Column)) → placed_test sources layout (test.Or xs) ≡ test.Or (map (placed_test sources layout) xs)
unfolding placed_test
placed_or sources layout xs = fold_or (placed_layer sources layout) xs

pub placed_and : (sources : List BoundSource) (layout : List (List (List ℕ))) (xs : List (Test Column)) → placed_test sources layout (test.And xs) ≡ test.And (map (placed_test sources layout) xs)
unfolding placed_test
placed_and sources layout xs = fold_and (placed_layer sources layout) xs

pub placed_not : (sources : List BoundSource) (layout : List (List (List ℕ))) (x : Test Column) → placed_test sources layout (test.Not x) ≡ test.Not (placed_test sources layout x)
unfolding placed_test
placed_not sources layout x = fold_not (placed_layer sources layout) x

pub placed_asks : (sources : List BoundSource) (layout : List (List (List ℕ))) (of : Operand Column) (question : Question Column) → placed_test sources layout (test.Asks of question) ≡ test.Asks (placed_operand sources layout of) (placed_asked sources layout question)
unfolding placed_test
placed_asks sources layout of question = fold_asks (placed_layer sources layout) of question

pub ruleset laws = (placed_or, placed_and, placed_not, placed_asks)
