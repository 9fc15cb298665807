-- What a statement says of names, part by part in the order of its text.
use Rattle.std.specs.Prelude.{ℕ, ◌+◌, List, [], ◌∷◌, ◌++◌, map, take, Option, Some, None}
use Rattle.std.specs.List.{flat_map}
use Rattle.sql_grammar.specs.declared.ast.Predicate.{Predicate}
use Rattle.sql_grammar.specs.declared.ast.Predicate.TheVariants as predicate
use Rattle.sql_grammar.specs.declared.ast.Expr.{Expr, fold-Expr}
use Rattle.sql_grammar.specs.declared.ast.Expr.TheOpen.{Expr-F}
use Rattle.sql_grammar.specs.declared.ast.Key.{Key}
use Rattle.sql_grammar.specs.declared.ast.Operand.{Operand}
use Rattle.sql_grammar.specs.declared.ast.Operand.TheVariants as operand
use Rattle.sql_grammar.specs.declared.ast.Ref.{Ref}
use Rattle.sql_grammar.specs.declared.ast.Shown.{Shown}
use Rattle.sql_grammar.specs.declared.ast.Shown.TheVariants as shown
use Rattle.sql_grammar.specs.declared.ast.TableRef.{TableRef}
use Rattle.sql_grammar.specs.declared.ast.Statement.{Statement}
use Rattle.sql_bind.specs.Sources.{Seen}

-- ---- the tests of a condition

pub record Test : Type 0 where
  pub of : Operand
  pub predicate : Predicate

abbrev pub tests_layer : Expr-F (List Test) → List Test
tests_layer (Expr-F.Or tests) = flat_map (λ ts. ts) tests
tests_layer (Expr-F.And tests) = flat_map (λ ts. ts) tests
tests_layer (Expr-F.Not tests) = tests
tests_layer (Expr-F.Test of predicate) = record { of = of; predicate = predicate } ∷ []

unfoldable pub tests_of : Expr → List Test
tests_of = fold-Expr (List Test) tests_layer

abbrev pub operand_refs : Operand → List Ref
operand_refs (operand.Ref r) = r ∷ []
operand_refs (operand.Literal l) = []

abbrev pub predicate_refs : Predicate → List Ref
predicate_refs predicate.Truth = []
predicate_refs (predicate.Compares op with) = operand_refs with
predicate_refs (predicate.IsIn negated list) = []
predicate_refs (predicate.IsNull negated) = []

abbrev pub refs_of : Test → List Ref
refs_of t = operand_refs t.of ++ predicate_refs t.predicate

-- ---- the parts

-- a ref that is shown, a source after others, a test, an order key; each with the sources that are looked at there
pub data Part : Type 0 where
  Shows : List Seen → Ref → Part
  Opens : List Seen → TableRef → Part
  Tests : List Seen → Test → Part
  Sorts : List Seen → Key → Part

abbrev pub shown_parts : List Seen → Shown → List Part
shown_parts all shown.All = []
shown_parts all (shown.Items items) = map (λ i. Shows all i.of) items

abbrev pub condition_parts : List Seen → Option Expr → List Part
condition_parts looked None = []
condition_parts looked (Some e) = map (Tests looked) (tests_of e)

-- the sources from the n-th on: a source sees those before it, and the condition of its join itself, too
abbrev pub source_parts : List Seen → ℕ → List Seen → List Part
source_parts all n [] = []
source_parts all n (s ∷ ss) = Opens (take n all) s.source ∷ (condition_parts (take (n + 1) all) s.on ++ source_parts all (n + 1) ss)

-- elsewhere all sources are looked at
abbrev pub parts_of : List Seen → Statement → List Part
parts_of all s = shown_parts all s.shown ++ (source_parts all 0 all ++ (condition_parts all s.test ++ map (Sorts all) s.order))
