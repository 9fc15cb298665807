-- The functions that are called for the rows of a source.
use Rattle.std.specs.Prelude.{◌≡◌, ◌≤◌, ◌<◌, ◌^◌, ℕ, true, List, [], ◌∷◌, map, filter, length, if◌then◌else◌}
use Rattle.std.specs.Arc.{arc_value}
use Rattle.std.specs.List.{list_all}
use Rattle.sp_model.specs.Calls.{is_wanted}
use Rattle.sp_model.specs.Rests.{column_rests}
use Rattle.sp_model.specs.RowOf.{columns_named}
use Rattle.sp_model.specs.declared.declaration.ColumnDecl.{ColumnDecl}
use Rattle.sp_model.specs.declared.declaration.FunctionDecl.{FunctionDecl}
use Rattle.sp_model.specs.declared.declaration.TableDecl.{TableDecl}
use Rattle.source_scans.specs.declared.source.PlanSource.{PlanSource}

-- the names of those of these functions that a column needs, itself or by another function
abbrev pub wanted_of : List FunctionDecl → List ColumnDecl → List FunctionDecl → List (List ℕ)
wanted_of functions columns these = map (λ f. f.name) (filter (λ f. is_wanted functions columns f.name) these)

-- those that these of a table's columns need, with all that they depend on, in declared order
abbrev pub functions_of : TableDecl → List (List ℕ) → List (List ℕ)
functions_of t columns = wanted_of t.functions (columns_named columns t.columns) t.functions

abbrev pub functions_for : PlanSource → List (List ℕ)
functions_for p = functions_of (arc_value p.table) p.columns

-- a table whose functions come to an end, and are few
pub record CanHydrate (t : TableDecl) : Type 0 where
  pub few : length t.functions ≤ 64
  pub few_columns : length t.columns < 2 ^ 32
  pub rest : (columns : List (List ℕ)) → list_all (column_rests t.functions) (columns_named columns t.columns) ≡ true

-- ---- for private clauses

-- the name of a function that a column needs
abbrev pub wanted_name : List FunctionDecl → List ColumnDecl → FunctionDecl → List (List ℕ)
wanted_name functions columns f = if is_wanted functions columns f.name then f.name ∷ [] else []
