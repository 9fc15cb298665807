use Rattle.std.proofs.Common.{◌≡◌, drop}
use Rattle.sp_model.specs.Keys.{fan_of}
use Rattle.key_columns.proofs.keys.fan_of.Given as goal

abbrev pub invariant-loop-column : goal.invariant-loop-column
invariant-loop-column l = fan_of l.keys (drop l.column-index l.lists) ≡ fan_of l.keys l.lists
