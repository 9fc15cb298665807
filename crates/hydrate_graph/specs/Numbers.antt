-- Functions by their numbers, which count from 0 in declared order.
use Rattle.std.specs.Prelude.{ℕ, suc, List, [], ◌∷◌, map, Option, Some, None, slice_get, if◌then◌else◌, bytes_eq}
use Rattle.sp_model.specs.Hydration.{depends_of}
use Rattle.sp_model.specs.declared.declaration.ColumnDecl.{ColumnDecl}
use Rattle.sp_model.specs.declared.declaration.FunctionDecl.{FunctionDecl}

-- the number of the first function of a name, and the number of functions where there is none
abbrev pub number_of : List FunctionDecl → List ℕ → ℕ
number_of [] name = 0
number_of (f ∷ fs) name = if bytes_eq f.name name then 0 else suc (number_of fs name)

abbrev pub numbers_of : List FunctionDecl → List (List ℕ) → List ℕ
numbers_of functions names = map (λ name. number_of functions name) names

-- the numbers of each function's dependencies
abbrev pub needs_of : List FunctionDecl → List (List ℕ)
needs_of functions = map (λ f. numbers_of functions f.depends) functions

abbrev pub source_number : List FunctionDecl → Option (List ℕ) → Option ℕ
source_number functions None = None
source_number functions (Some name) = Some (number_of functions name)

-- the numbers of the columns' functions
abbrev pub sources_of : List FunctionDecl → List ColumnDecl → List (Option ℕ)
sources_of functions columns = map (λ column. source_number functions column.function) columns

abbrev pub name_of : Option FunctionDecl → List ℕ
name_of None = []
name_of (Some f) = f.name

-- the name of the function of a number
abbrev pub name_at : List FunctionDecl → ℕ → List ℕ
name_at functions number = name_of (slice_get functions number)

-- the dependencies of the function of a number
abbrev pub depends_at : List FunctionDecl → ℕ → List (List ℕ)
depends_at functions number = depends_of (slice_get functions number)
