-- The names of those of the functions so far that a column needs.
use Rattle.std.proofs.Common.{◌≡◌, take}
use Rattle.sp_model.specs.RowOf.{columns_named}
use Rattle.explain_text.specs.Functions.{wanted_of}
use Rattle.explain_text.proofs.functions.functions_of.Given as goal

abbrev pub invariant-loop-function : goal.invariant-loop-function
invariant-loop-function l = l.names ≡ wanted_of l.table.functions (columns_named l.columns l.table.columns) (take l.function-index l.table.functions)
