-- Each form of condition, bound.
use Rattle.std.proofs.Common.{◌≡◌, List, map, sym, ap, ◌∙◌}
use Rattle.column_tests.specs.declared.test.Test.{Test}
use Rattle.column_tests.specs.declared.test.Test.TheVariants as test
use Rattle.sql_grammar.specs.declared.ast.Predicate.{Predicate}
use Rattle.sql_grammar.specs.declared.ast.Expr.{Expr, fold-Expr, fold-roll-Expr}
use Rattle.sql_grammar.specs.declared.ast.Expr.TheVariants as e
use Rattle.sql_grammar.specs.declared.ast.Expr.TheVariants.{rolls-Or, rolls-And, rolls-Not, rolls-Test}
use Rattle.sql_grammar.specs.declared.ast.Expr.TheOpen.{Expr-F}
use Rattle.sql_grammar.specs.declared.ast.Operand.{Operand}
use Rattle.sql_bind.specs.Binding.{expr_of, expr_layer, operand_of, question_of}
use Rattle.sql_bind.specs.Sources.{Seen}
use Rattle.sql_bind.specs.declared.bound.Column.{Column}

pub expr_or : (looked : List Seen) (xs : List Expr) → expr_of looked (e.Or xs) ≡ test.Or (map (expr_of looked) xs)
unfolding expr_of
expr_or looked xs = ap (fold-Expr (Test Column) (expr_layer looked)) (sym (rolls-Or xs)) ∙ fold-roll-Expr (Test Column) (expr_layer looked) (Expr-F.Or xs)

pub expr_and : (looked : List Seen) (xs : List Expr) → expr_of looked (e.And xs) ≡ test.And (map (expr_of looked) xs)
unfolding expr_of
expr_and looked xs = ap (fold-Expr (Test Column) (expr_layer looked)) (sym (rolls-And xs)) ∙ fold-roll-Expr (Test Column) (expr_layer looked) (Expr-F.And xs)

pub expr_not : (looked : List Seen) (x : Expr) → expr_of looked (e.Not x) ≡ test.Not (expr_of looked x)
unfolding expr_of
expr_not looked x = ap (fold-Expr (Test Column) (expr_layer looked)) (sym (rolls-Not x)) ∙ fold-roll-Expr (Test Column) (expr_layer looked) (Expr-F.Not x)

pub expr_test : (looked : List Seen) (of : Operand) (predicate : Predicate) → expr_of looked (e.Test of predicate) ≡ test.Asks (operand_of looked of) (question_of looked predicate)
unfolding expr_of
expr_test looked of predicate = ap (fold-Expr (Test Column) (expr_layer looked)) (sym (rolls-Test of predicate)) ∙ fold-roll-Expr (Test Column) (expr_layer looked) (Expr-F.Test of predicate)

pub ruleset laws = (expr_or, expr_and, expr_not, expr_test)
