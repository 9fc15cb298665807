-- The values so far, and those of the values that are left that weren't there.
use Rattle.std.proofs.Common.{◌≡◌, ◌++◌, [], drop}
use Rattle.sp_model.specs.Units.{distinct_values}
use Rattle.source_scans.proofs.EachValue.{values}
use Rattle.source_scans.proofs.distinct.found_in.Given as goal

abbrev pub invariant-loop-value : goal.invariant-loop-value
invariant-loop-value l = values l.found.keys ++ distinct_values (values l.found.keys) (drop l.value-index l.values) ≡ distinct_values [] l.values
