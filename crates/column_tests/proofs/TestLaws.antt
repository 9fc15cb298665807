-- What a fold of a test is at each form.
use Rattle.std.proofs.Common.{◌≡◌, List, map, sym, ap, ◌∙◌}
use Rattle.column_tests.specs.declared.test.Operand.{Operand}
use Rattle.column_tests.specs.declared.test.Question.{Question}
use Rattle.column_tests.specs.declared.test.Test.{Test, fold-Test, fold-roll-Test}
use Rattle.column_tests.specs.declared.test.Test.TheVariants as t
use Rattle.column_tests.specs.declared.test.Test.TheVariants.{rolls-Or, rolls-And, rolls-Not, rolls-Asks}
use Rattle.column_tests.specs.declared.test.Test.TheOpen.{Test-F}

module _ {C X : Type 0} (layer : Test-F C X → X) where
  pub fold_or : (xs : List (Test C)) → fold-Test C X layer (t.Or xs) ≡ layer (Test-F.Or (map (fold-Test C X layer) xs))
  fold_or xs = ap (fold-Test C X layer) (sym (rolls-Or xs)) ∙ fold-roll-Test C X layer (Test-F.Or xs)

  pub fold_and : (xs : List (Test C)) → fold-Test C X layer (t.And xs) ≡ layer (Test-F.And (map (fold-Test C X layer) xs))
  fold_and xs = ap (fold-Test C X layer) (sym (rolls-And xs)) ∙ fold-roll-Test C X layer (Test-F.And xs)

  pub fold_not : (x : Test C) → fold-Test C X layer (t.Not x) ≡ layer (Test-F.Not (fold-Test C X layer x))
  fold_not x = ap (fold-Test C X layer) (sym (rolls-Not x)) ∙ fold-roll-Test C X layer (Test-F.Not x)

  pub fold_asks : (of : Operand C) (question : Question C) → fold-Test C X layer (t.Asks of question) ≡ layer (Test-F.Asks of question)
  fold_asks of question = ap (fold-Test C X layer) (sym (rolls-Asks of question)) ∙ fold-roll-Test C X layer (Test-F.Asks of question)
