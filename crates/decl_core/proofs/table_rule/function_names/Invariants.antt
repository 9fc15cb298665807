-- The names so far, and then those of the functions that are left, are all.
use Rattle.std.proofs.Common.{◌≡◌, ◌||◌, ℕ, List, drop}
use Rattle.sp_model.specs.Hydration.{names_of_functions}
use Rattle.sp_model.specs.Names.{has_name}
use Rattle.decl_core.proofs.table_rule.function_names.Given as goal

abbrev pub invariant-loop-function : goal.invariant-loop-function
invariant-loop-function l = (name : List ℕ) → (has_name l.names name || has_name (names_of_functions (drop l.function-index l.functions)) name) ≡ has_name (names_of_functions l.functions) name
