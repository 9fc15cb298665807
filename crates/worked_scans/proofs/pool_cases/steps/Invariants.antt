use Rattle.std.proofs.Common.{◌≤◌}
use Rattle.worked_scans.proofs.pool_cases.steps.Given as goal

abbrev pub invariant-loop-text : goal.invariant-loop-text
invariant-loop-text l = l.pool.drawn ≤ l.count
