use Rattle.std.proofs.Common.{◌≡◌, drop}
use Rattle.std.specs.List.{zip}
use Rattle.sp_value.specs.Names.{value_under}
use Rattle.sp_value.proofs.members.find.Given as goal

abbrev pub invariant-loop-index : goal.invariant-loop-index
invariant-loop-index g l = value_under l.name (zip (drop l.index l.names) (drop l.index l.values)) ≡ value_under l.name (zip l.names l.values)
