-- The conjuncts of each form of test.
use Rattle.std.proofs.Common.{◌≡◌, List, [], ◌∷◌, ◌++◌, map, refl, sym, ap, ◌∙◌, append_assoc, subst}
use Rattle.std.specs.List.{flat_map}
use Rattle.column_tests.proofs.TestLaws.{fold_or, fold_and, fold_not, fold_asks}
use Rattle.column_tests.specs.declared.test.Operand.{Operand}
use Rattle.column_tests.specs.declared.test.Question.{Question}
use Rattle.column_tests.specs.declared.test.Test.{Test, ind-Test, roll-Test, map-Test}
use Rattle.column_tests.specs.declared.test.Test.TheOpen.{Test-F}
use Rattle.column_tests.specs.declared.test.Test.TheVariants as test
use Rattle.column_tests.specs.declared.test.Test.TheVariants.{rolls-Or, rolls-And, rolls-Not, rolls-Asks}
use Rattle.sql_bind.specs.declared.bound.Column.{Column}
use Rattle.statement_plan.specs.Conjuncts.{Parts, parts_layer, parts_of, conjuncts}

parts_or : (xs : List (Test Column)) → parts_of (test.Or xs) ≡ parts_layer (Test-F.Or (map parts_of xs))
unfolding parts_of
parts_or xs = fold_or parts_layer xs

parts_and : (xs : List (Test Column)) → parts_of (test.And xs) ≡ parts_layer (Test-F.And (map parts_of xs))
unfolding parts_of
parts_and xs = fold_and parts_layer xs

parts_not : (x : Test Column) → parts_of (test.Not x) ≡ parts_layer (Test-F.Not (parts_of x))
unfolding parts_of
parts_not x = fold_not parts_layer x

parts_asks : (of : Operand Column) (question : Question Column) → parts_of (test.Asks of question) ≡ parts_layer (Test-F.Asks of question)
unfolding parts_of
parts_asks of question = fold_asks parts_layer of question

-- ---- a test is whole

abbrev IsWhole : Test Column → Type 0
IsWhole x = (parts_of x).whole ≡ x

wholes : (ys : List ((x : Test Column) × IsWhole x)) → map (λ p. p.whole) (map parts_of (map (λ y. y.0) ys)) ≡ map (λ y. y.0) ys
wholes [] = refl
wholes (y ∷ ys) = ap (λ x. x ∷ map (λ p. p.whole) (map parts_of (map (λ y. y.0) ys))) y.1 ∙ ap (λ xs. y.0 ∷ xs) (wholes ys)

abbrev WithWhole : Type 0
WithWhole = (x : Test Column) × IsWhole x

whole_layer : (y : Test-F Column WithWhole) → IsWhole (roll-Test Column (map-Test Column WithWhole (Test Column) (λ y. y.0) y))
whole_layer (Test-F.Or ys) =
    let xs : List (Test Column) = map (λ y. y.0) ys in
    subst IsWhole (sym (rolls-Or xs)) (ap (λ p. p.whole) (parts_or xs) ∙ ap test.Or (wholes ys))
whole_layer (Test-F.And ys) =
    let xs : List (Test Column) = map (λ y. y.0) ys in
    subst IsWhole (sym (rolls-And xs)) (ap (λ p. p.whole) (parts_and xs) ∙ ap test.And (wholes ys))
whole_layer (Test-F.Not y) = subst IsWhole (sym (rolls-Not y.0)) (ap (λ p. p.whole) (parts_not y.0) ∙ ap test.Not y.1)
whole_layer (Test-F.Asks of question) = subst IsWhole (sym (rolls-Asks of question)) (ap (λ p. p.whole) (parts_asks of question))

is_whole : (x : Test Column) → IsWhole x
is_whole = ind-Test Column IsWhole (λ x y is. subst (λ z. IsWhole (roll-Test Column z)) is (whole_layer y))

-- ---- conjuncts

eaches : (xs : List (Test Column)) → flat_map (λ p. p.each) (map parts_of xs) ≡ flat_map conjuncts xs
unfolding conjuncts
eaches [] = refl
eaches (x ∷ xs) = ap (λ es. (parts_of x).each ++ es) (eaches xs)

pub conjuncts_and : (xs : List (Test Column)) → conjuncts (test.And xs) ≡ flat_map conjuncts xs
unfolding conjuncts
conjuncts_and xs = ap (λ p. p.each) (parts_and xs) ∙ eaches xs

pub conjuncts_or : (xs : List (Test Column)) → conjuncts (test.Or xs) ≡ test.Or xs ∷ []
unfolding conjuncts
conjuncts_or xs =
    ap (λ p. p.each) (parts_or xs) ∙ ap (λ x. x ∷ []) (sym (ap (λ p. p.whole) (parts_or xs)) ∙ is_whole (test.Or xs))

pub conjuncts_not : (x : Test Column) → conjuncts (test.Not x) ≡ test.Not x ∷ []
unfolding conjuncts
conjuncts_not x = ap (λ p. p.each) (parts_not x) ∙ ap (λ y. y ∷ []) (sym (ap (λ p. p.whole) (parts_not x)) ∙ is_whole (test.Not x))

pub conjuncts_asks : (of : Operand Column) (question : Question Column) → conjuncts (test.Asks of question) ≡ test.Asks of question ∷ []
unfolding conjuncts
conjuncts_asks of question = ap (λ p. p.each) (parts_asks of question)

pub ruleset laws = (conjuncts_and, conjuncts_or, conjuncts_not, conjuncts_asks, append_assoc)
