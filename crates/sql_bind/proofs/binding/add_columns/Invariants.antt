-- The columns so far, and those that are left.
use Rattle.std.proofs.Common.{◌≡◌, ◌++◌, drop}
use Rattle.sql_bind.specs.Binding.{columns_from}
use Rattle.sql_bind.proofs.binding.add_columns.Given as goal

abbrev pub invariant-loop-column : goal.invariant-loop-column
invariant-loop-column l = l.items ++ columns_from l.source l.column (drop l.column l.table.columns) ≡ l.initial.items ++ columns_from l.source 0 l.table.columns
