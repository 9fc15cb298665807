-- Functions that come to an end.
use Rattle.std.specs.Prelude.{ℕ, zero, suc, Bool, true, false, List, length, Option, Some, None}
use Rattle.std.specs.List.{list_all}
use Rattle.sp_model.specs.Hydration.{find_function}
use Rattle.sp_model.specs.declared.declaration.ColumnDecl.{ColumnDecl}
use Rattle.sp_model.specs.declared.declaration.FunctionDecl.{FunctionDecl}

abbrev pub rests_by : (List ℕ → Bool) → Option FunctionDecl → Bool
rests_by rests None = false
rests_by rests (Some f) = list_all rests f.depends

-- the function and all that it needs are declared, and at most n of them depend on one another in a row
abbrev pub rests_in : ℕ → List FunctionDecl → List ℕ → Bool
rests_in zero functions name = false
rests_in (suc n) functions name = rests_by (λ dependency. rests_in n functions dependency) (find_function name functions)

-- the function and all that it needs are declared, and none needs itself: no row of dependencies is longer than there are functions
abbrev pub rests : List FunctionDecl → List ℕ → Bool
rests functions name = rests_in (length functions) functions name

abbrev pub rests_some : List FunctionDecl → Option (List ℕ) → Bool
rests_some functions None = true
rests_some functions (Some name) = rests functions name

-- a column is a field of the item, or its function rests so
abbrev pub column_rests : List FunctionDecl → ColumnDecl → Bool
column_rests functions column = rests_some functions column.function
