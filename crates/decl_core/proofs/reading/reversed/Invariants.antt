-- Those that are left, and then those that were taken, back in their order, are all.
use Rattle.std.proofs.Common.{◌≡◌, ◌++◌, length}
use Rattle.std.specs.Prelude.{reverse}
use Rattle.decl_core.proofs.reading.reversed.Given as goal

abbrev pub invariant-loop-table : goal.invariant-loop-table
invariant-loop-table l = l.tables ++ reverse l.reversed ≡ l.initial.tables

abbrev pub decreases-loop-table : goal.decreases-loop-table
decreases-loop-table l = length l.tables
