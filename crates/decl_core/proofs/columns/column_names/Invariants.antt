-- The names so far, and then those of the columns that are left, are all.
use Rattle.std.proofs.Common.{◌≡◌, ◌||◌, ℕ, List, drop}
use Rattle.sp_model.specs.RowOf.{names_of_columns}
use Rattle.sp_model.specs.Names.{has_name}
use Rattle.decl_core.proofs.columns.column_names.Given as goal

abbrev pub invariant-loop-column : goal.invariant-loop-column
invariant-loop-column l = (name : List ℕ) → (has_name l.names name || has_name (names_of_columns (drop l.column-index l.columns)) name) ≡ has_name (names_of_columns l.columns) name
