-- What is said of each form of condition.
use Rattle.std.proofs.Common.{◌≡◌, ℕ, zero, suc, List, [], ◌∷◌, map, refl, sym, ap, ◌∙◌}
use Rattle.sql_lex.specs.declared.token.Kind.{Kind}
use Rattle.sql_lex.specs.declared.token.Kind.TheVariants as k
use Rattle.sql_grammar.specs.declared.ast.Operand.{Operand}
use Rattle.sql_grammar.specs.declared.ast.Predicate.{Predicate}
use Rattle.sql_grammar.specs.declared.ast.Expr.{Expr, fold-Expr, fold-roll-Expr}
use Rattle.sql_grammar.specs.declared.ast.Expr.TheVariants as e
use Rattle.sql_grammar.specs.declared.ast.Expr.TheVariants.{rolls-Or, rolls-And, rolls-Not, rolls-Test}
use Rattle.sql_grammar.specs.declared.ast.Expr.TheOpen.{Expr-F}
use Rattle.sql_print.specs.Said.{Bare, Said, said, said_layer, between, each_after}
use Rattle.sql_print.specs.Placeless as bare
use Rattle.sql_print.specs.Placeless.{expr, expr_layer}

pub said_or : (xs : List Expr) → said (e.Or xs) ≡ said_layer (Expr-F.Or (map said xs))
unfolding said
said_or xs = ap (fold-Expr Said said_layer) (sym (rolls-Or xs)) ∙ fold-roll-Expr Said said_layer (Expr-F.Or xs)

pub said_and : (xs : List Expr) → said (e.And xs) ≡ said_layer (Expr-F.And (map said xs))
unfolding said
said_and xs = ap (fold-Expr Said said_layer) (sym (rolls-And xs)) ∙ fold-roll-Expr Said said_layer (Expr-F.And xs)

pub said_not : (x : Expr) → said (e.Not x) ≡ said_layer (Expr-F.Not (said x))
unfolding said
said_not x = ap (fold-Expr Said said_layer) (sym (rolls-Not x)) ∙ fold-roll-Expr Said said_layer (Expr-F.Not x)

pub said_test_is : (of : Operand) (predicate : Predicate) → said (e.Test of predicate) ≡ said_layer (Expr-F.Test of predicate)
unfolding said
said_test_is of predicate = ap (fold-Expr Said said_layer) (sym (rolls-Test of predicate)) ∙ fold-roll-Expr Said said_layer (Expr-F.Test of predicate)

pub ruleset laws = (said_or, said_and, said_not, said_test_is)

-- what is said from the member at an index on
abbrev pub tail_said : Kind → ℕ → List (List Bare) → List Bare
tail_said kind zero ts = between kind ts
tail_said kind (suc i) ts = each_after kind ts

abbrev pub or_said : Expr → List Bare
or_said x = (said x).in_or

abbrev pub and_said : Expr → List Bare
and_said x = (said x).in_and

pub fuse : {A B C : Type 0} (f : B → C) (g : A → B) (xs : List A) → map f (map g xs) ≡ map (λ x. f (g x)) xs
fuse f g [] = refl
fuse f g (x ∷ xs) = ap (λ (ys : List _). f (g x) ∷ ys) (fuse f g xs)

pub alone_or : (xs : List Expr) → (said (e.Or xs)).alone ≡ between k.Or (map or_said xs)
alone_or xs = ap (λ (z : Said). z.alone) (said_or xs) ∙ ap (between k.Or) (fuse (λ (z : Said). z.in_or) said xs)

pub alone_and : (xs : List Expr) → (said (e.And xs)).alone ≡ between k.And (map and_said xs)
alone_and xs = ap (λ (z : Said). z.alone) (said_and xs) ∙ ap (between k.And) (fuse (λ (z : Said). z.in_and) said xs)

-- ---- without places

pub expr_or : (xs : List Expr) → expr (e.Or xs) ≡ e.Or (map expr xs)
unfolding expr
expr_or xs = ap (fold-Expr Expr expr_layer) (sym (rolls-Or xs)) ∙ fold-roll-Expr Expr expr_layer (Expr-F.Or xs)

pub expr_and : (xs : List Expr) → expr (e.And xs) ≡ e.And (map expr xs)
unfolding expr
expr_and xs = ap (fold-Expr Expr expr_layer) (sym (rolls-And xs)) ∙ fold-roll-Expr Expr expr_layer (Expr-F.And xs)

pub expr_not : (x : Expr) → expr (e.Not x) ≡ e.Not (expr x)
unfolding expr
expr_not x = ap (fold-Expr Expr expr_layer) (sym (rolls-Not x)) ∙ fold-roll-Expr Expr expr_layer (Expr-F.Not x)

pub expr_test : (of : Operand) (predicate : Predicate) → expr (e.Test of predicate) ≡ e.Test (bare.operand_of of) (bare.predicate_of predicate)
unfolding expr
expr_test of predicate = ap (fold-Expr Expr expr_layer) (sym (rolls-Test of predicate)) ∙ fold-roll-Expr Expr expr_layer (Expr-F.Test of predicate)
