-- The first of those that are left is the first.
use Rattle.std.proofs.Common.{◌≡◌, ◌+◌, drop}
use Rattle.decl_words.specs.Refusals.{first_table}
use Rattle.decl_core.proofs.table_rule.first_table.Given as goal

abbrev pub invariant-loop-table : goal.invariant-loop-table
invariant-loop-table g l =
    (l.number ≡ l.table-index)
    × (first_table g.R.TableRule.refuses (l.table-index + 1) (drop l.table-index l.tables) ≡ first_table g.R.TableRule.refuses 1 l.tables)
