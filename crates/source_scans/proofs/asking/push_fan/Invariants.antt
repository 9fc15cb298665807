-- The scans so far, and those of the values that are left.
use Rattle.std.proofs.Common.{◌≡◌, ◌++◌, map, drop}
use Rattle.sp_model.specs.Units.{with_value}
use Rattle.source_scans.specs.Asking.{condition_at}
use Rattle.source_scans.specs.Collecting.{scans_under}
use Rattle.source_scans.proofs.asking.push_fan.Given as goal

abbrev pub invariant-loop-value : goal.invariant-loop-value
invariant-loop-value l =
    l.units ++ scans_under l.connection (map (with_value l.fan.column (map (condition_at l.left) l.conditions)) (drop l.value-index l.fan.values))
    ≡ l.fn.units ++ scans_under l.connection (map (with_value l.fan.column (map (condition_at l.left) l.conditions)) l.fan.values)
