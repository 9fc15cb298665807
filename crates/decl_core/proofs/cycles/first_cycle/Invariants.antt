-- The first of those that are left is the first.
use Rattle.std.proofs.Common.{◌≡◌, ◌+◌, drop}
use Rattle.decl_words.specs.Refusals.{first_cycle}
use Rattle.decl_core.proofs.cycles.first_cycle.Given as goal

abbrev pub invariant-loop-table : goal.invariant-loop-table
invariant-loop-table l =
    (l.number ≡ l.table-index)
    × (first_cycle (l.table-index + 1) (drop l.table-index l.tables) ≡ first_cycle 1 l.tables)
