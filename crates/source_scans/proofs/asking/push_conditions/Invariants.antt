-- The conditions so far, and those that are left.
use Rattle.std.proofs.Common.{◌≡◌, ◌++◌, map, drop}
use Rattle.source_scans.specs.Asking.{condition_at}
use Rattle.source_scans.proofs.asking.push_conditions.Given as goal

abbrev pub invariant-loop-condition : goal.invariant-loop-condition
invariant-loop-condition l = l.into ++ map (condition_at l.left) (drop l.condition-index l.conditions) ≡ l.fn.into ++ map (condition_at l.left) l.conditions
