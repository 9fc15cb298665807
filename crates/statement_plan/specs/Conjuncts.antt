-- The conjuncts of a statement.
use Rattle.std.specs.Prelude.{List, [], ◌∷◌, ◌++◌, map, Option, Some, None}
use Rattle.std.specs.List.{flat_map}
use Rattle.sql_bind.specs.declared.bound.Bound.{Bound}
use Rattle.sql_bind.specs.declared.bound.Column.{Column}
use Rattle.column_tests.specs.declared.test.Test.{Test, fold-Test}
use Rattle.column_tests.specs.declared.test.Test.TheOpen.{Test-F}
use Rattle.column_tests.specs.declared.test.Test.TheVariants as test

-- a condition, and its conjuncts
pub record Parts : Type 0 where
  pub whole : Test Column
  pub each : List (Test Column)

abbrev pub alone : Test Column → Parts
alone e = record { whole = e; each = e ∷ [] }

-- `and` is taken apart, also within `and`
abbrev pub parts_layer : Test-F Column Parts → Parts
parts_layer (Test-F.Or ps) = alone (test.Or (map (λ p. p.whole) ps))
parts_layer (Test-F.And ps) = record { whole = test.And (map (λ p. p.whole) ps); each = flat_map (λ p. p.each) ps }
parts_layer (Test-F.Not p) = alone (test.Not p.whole)
parts_layer (Test-F.Asks of question) = alone (test.Asks of question)

unfoldable pub parts_of : Test Column → Parts
parts_of = fold-Test Column Parts parts_layer

unfoldable pub conjuncts : Test Column → List (Test Column)
conjuncts e = (parts_of e).each

abbrev pub conjuncts_in : Option (Test Column) → List (Test Column)
conjuncts_in None = []
conjuncts_in (Some e) = conjuncts e

-- those of every `on`, in the order of the sources, and then those of `where`
abbrev pub conjuncts_of : Bound → List (Test Column)
conjuncts_of b = flat_map (λ s. conjuncts_in s.on) b.sources ++ conjuncts_in b.test
