-- The first duplicate of the tables that are left is the first.
use Rattle.std.proofs.Common.{◌≡◌, ◌+◌, [], drop}
use Rattle.decl_words.specs.Refusals.{duplicate_table}
use Rattle.decl_core.proofs.repeats.duplicate_table.Given as goal

abbrev pub invariant-loop-table : goal.invariant-loop-table
invariant-loop-table l =
    (l.number ≡ l.table-index)
    × (duplicate_table l.seen (l.table-index + 1) (drop l.table-index l.tables) ≡ duplicate_table [] 1 l.tables)
