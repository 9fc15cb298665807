-- Whether those that are left are all within the limits is whether all are.
use Rattle.std.proofs.Common.{◌≡◌, drop}
use Rattle.std.specs.List.{list_all}
use Rattle.decl_words.specs.Limits.{column_fits}
use Rattle.decl_core.proofs.limits.columns_fit.Given as goal

abbrev pub invariant-loop-column : goal.invariant-loop-column
invariant-loop-column l = list_all column_fits (drop l.column-index l.columns) ≡ list_all column_fits l.columns
