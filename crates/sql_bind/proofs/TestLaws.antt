-- Where each form of condition breaks a rule first.
use Rattle.std.proofs.Common.{◌≡◌, List, [], ◌∷◌, map, refl, sym, ap, ◌∙◌}
use Rattle.std.specs.Prelude.{Option, Some, None}
use Rattle.std.specs.List.{flat_map}
use Rattle.std.specs.Option.{option_or}
use Rattle.std.proofs.lemmas.List.{map-append}
use Rattle.sql_grammar.specs.declared.ast.Predicate.{Predicate}
use Rattle.sql_grammar.specs.declared.ast.Expr.{Expr, fold-Expr, fold-roll-Expr}
use Rattle.sql_grammar.specs.declared.ast.Expr.TheVariants as e
use Rattle.sql_grammar.specs.declared.ast.Expr.TheVariants.{rolls-Or, rolls-And, rolls-Not, rolls-Test}
use Rattle.sql_grammar.specs.declared.ast.Expr.TheOpen.{Expr-F}
use Rattle.sql_grammar.specs.declared.ast.Operand.{Operand}
use Rattle.sql_bind.specs.First.{first_of}
use Rattle.sql_bind.specs.Parts.{Test, Tests, tests_of, tests_layer}
use Rattle.sql_bind.specs.Refusals.{broken, broken_in}
use Rattle.sql_bind.specs.Sources.{Seen}
use Rattle.sql_bind.specs.declared.judging.NameRule.{NameRule}
use Rattle.sql_bind.proofs.Firsts.{first_of_append}

tests_or : (xs : List Expr) → tests_of (e.Or xs) ≡ flat_map (λ ts. ts) (map tests_of xs)
unfolding tests_of
tests_or xs = ap (fold-Expr (List Test) tests_layer) (sym (rolls-Or xs)) ∙ fold-roll-Expr (List Test) tests_layer (Expr-F.Or xs)

tests_and : (xs : List Expr) → tests_of (e.And xs) ≡ flat_map (λ ts. ts) (map tests_of xs)
unfolding tests_of
tests_and xs = ap (fold-Expr (List Test) tests_layer) (sym (rolls-And xs)) ∙ fold-roll-Expr (List Test) tests_layer (Expr-F.And xs)

tests_not : (x : Expr) → tests_of (e.Not x) ≡ tests_of x
unfolding tests_of
tests_not x = ap (fold-Expr (List Test) tests_layer) (sym (rolls-Not x)) ∙ fold-roll-Expr (List Test) tests_layer (Expr-F.Not x)

tests_test : (of : Operand) (predicate : Predicate) → tests_of (e.Test of predicate) ≡ record { of = of; predicate = predicate } ∷ []
unfolding tests_of
tests_test of predicate = ap (fold-Expr (List Test) tests_layer) (sym (rolls-Test of predicate)) ∙ fold-roll-Expr (List Test) tests_layer (Expr-F.Test of predicate)

-- the first of the tests of several conditions
first_in_each : (rule : NameRule) (looked : List Seen) (xs : List Expr)
    → first_of (broken rule) (map (Tests looked) (flat_map (λ ts. ts) (map tests_of xs))) ≡ first_of (broken_in rule looked) xs
unfolding broken_in
first_in_each rule looked [] = refl
first_in_each rule looked (x ∷ xs) =
    rw (map-append, first_of_append) (ap (option_or (first_of (broken rule) (map (Tests looked) (tests_of x)))) (first_in_each rule looked xs))

pub broken_in_or : (rule : NameRule) (looked : List Seen) (xs : List Expr) → broken_in rule looked (e.Or xs) ≡ first_of (broken_in rule looked) xs
unfolding broken_in
broken_in_or rule looked xs = rw (tests_or xs) (first_in_each rule looked xs)

pub broken_in_and : (rule : NameRule) (looked : List Seen) (xs : List Expr) → broken_in rule looked (e.And xs) ≡ first_of (broken_in rule looked) xs
unfolding broken_in
broken_in_and rule looked xs = rw (tests_and xs) (first_in_each rule looked xs)

pub broken_in_not : (rule : NameRule) (looked : List Seen) (x : Expr) → broken_in rule looked (e.Not x) ≡ broken_in rule looked x
unfolding broken_in
broken_in_not rule looked x = rw (tests_not x) refl

or_none : {B : Type 0} (a : Option B) → option_or a None ≡ a
or_none None = refl
or_none (Some x) = refl

pub broken_in_test : (rule : NameRule) (looked : List Seen) (of : Operand) (predicate : Predicate)
    → broken_in rule looked (e.Test of predicate) ≡ broken rule (Tests looked (record { of = of; predicate = predicate }))
unfolding broken_in
broken_in_test rule looked of predicate = rw (tests_test of predicate) (or_none (broken rule (Tests looked (record { of = of; predicate = predicate }))))

pub ruleset laws = (broken_in_or, broken_in_and, broken_in_not, broken_in_test)
