-- The names so far, followed by those of the functions that are left, are all.
use Rattle.std.proofs.Common.{◌≡◌, ◌++◌, filter, length}
use Rattle.sp_model.specs.Hydration.{names_of_functions}
use Rattle.decl_core.specs.Taking.{is_left}
use Rattle.decl_core.proofs.taking.names_that_stay.Given as goal

abbrev pub invariant-loop-functions : goal.invariant-loop-functions
invariant-loop-functions l = names_of_functions (filter (is_left l.taken) l.initial.functions) ≡ l.names ++ names_of_functions (filter (is_left l.taken) l.functions)

abbrev pub decreases-loop-functions : goal.decreases-loop-functions
decreases-loop-functions l = length l.functions
