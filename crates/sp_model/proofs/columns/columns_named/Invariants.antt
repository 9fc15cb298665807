-- The columns found so far, and those after the index.
use Rattle.std.proofs.Common.{◌≡◌, ◌++◌, drop}
use Rattle.sp_model.specs.RowOf.{columns_named}
use Rattle.sp_model.proofs.columns.columns_named.Given as goal

abbrev pub invariant-loop-column : goal.invariant-loop-column
invariant-loop-column l = l.found ++ columns_named l.names (drop l.column-index l.columns) ≡ columns_named l.names l.columns
