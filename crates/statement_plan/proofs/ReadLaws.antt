-- The columns that each form of test reads.
use Rattle.std.proofs.Common.{◌≡◌, List, ◌++◌, map}
use Rattle.std.proofs.lemmas.List.{append_assoc}
use Rattle.std.specs.List.{flat_map}
use Rattle.column_tests.proofs.TestLaws.{fold_or, fold_and, fold_not, fold_asks}
use Rattle.column_tests.specs.declared.test.Operand.{Operand}
use Rattle.column_tests.specs.declared.test.Question.{Question}
use Rattle.column_tests.specs.declared.test.Test.{Test}
use Rattle.column_tests.specs.declared.test.Test.TheVariants as test
use Rattle.sql_bind.specs.declared.bound.Column.{Column}
use Rattle.statement_plan.specs.Columns.{columns_of, columns_layer, operand_columns, asked_columns}

pub reads_or : (xs : List (Test Column)) → columns_of (test.Or xs) ≡ flat_map (λ cs. cs) (map columns_of xs)
unfolding columns_of
reads_or xs = fold_or columns_layer xs

pub reads_and : (xs : List (Test Column)) → columns_of (test.And xs) ≡ flat_map (λ cs. cs) (map columns_of xs)
unfolding columns_of
reads_and xs = fold_and columns_layer xs

pub reads_not : (x : Test Column) → columns_of (test.Not x) ≡ columns_of x
unfolding columns_of
reads_not x = fold_not columns_layer x

pub reads_asks : (of : Operand Column) (question : Question Column) → columns_of (test.Asks of question) ≡ operand_columns of ++ asked_columns question
unfolding columns_of
reads_asks of question = fold_asks columns_layer of question

pub ruleset laws = (reads_or, reads_and, reads_not, reads_asks, append_assoc)
