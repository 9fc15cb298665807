-- For private clauses: the dependencies of functions, and their results, in the order of their names.
use Rattle.std.specs.Prelude.{ℕ, List, [], ◌∷◌, map, Option, Some, None}
use Rattle.std.specs.Cmp.Lexicographic.{slice_cmp}
use Rattle.std.specs.Ordering.{nat_cmp, match_ordering}
use Rattle.sp_value.specs.declared.cell.Cell.{Cell}
use Rattle.sp_value.specs.declared.cell.Cell.TheVariants.{Null}
use Rattle.sp_model.specs.declared.declaration.FunctionDecl.{FunctionDecl}
use Rattle.sp_model.specs.declared.outcome.Outcome.{Outcome}
use Rattle.sp_model.specs.declared.outcome.Outcome.TheVariants.{Gave, Fails}
use Rattle.hydrate_graph.specs.Numbers.{numbers_of}
use Rattle.hydrate_graph.specs.declared.depends.Depends.{Depends}

-- a name among names in the order of their bytes
abbrev pub put_name : List ℕ → List (List ℕ) → List (List ℕ)
put_name name [] = name ∷ []
put_name name (m ∷ ms) = match_ordering (slice_cmp nat_cmp name m) (name ∷ m ∷ ms) (name ∷ ms) (m ∷ put_name name ms)

-- these names in the order of their bytes, each once
abbrev pub ordered : List (List ℕ) → List (List ℕ)
ordered [] = []
ordered (name ∷ names) = put_name name (ordered names)

abbrev pub depends_in : List FunctionDecl → List (List ℕ) → Depends
depends_in functions names = record { names = ordered names; numbers = numbers_of functions (ordered names) }

-- the dependencies of each function
abbrev pub all_depends : List FunctionDecl → List Depends
all_depends functions = map (λ f. depends_in functions f.depends) functions

-- the result that was given, and null where none was
abbrev pub result_of : Option Outcome → Cell
result_of None = Null
result_of (Some (Gave x)) = x
result_of (Some (Fails cause)) = Null
