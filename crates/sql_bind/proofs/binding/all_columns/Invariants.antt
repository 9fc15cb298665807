-- The columns so far, and those of the sources that are left.
use Rattle.std.proofs.Common.{◌≡◌, ◌++◌, drop}
use Rattle.sql_bind.specs.Binding.{all_columns_from}
use Rattle.sql_bind.proofs.binding.all_columns.Given as goal

abbrev pub invariant-loop-n : goal.invariant-loop-n
invariant-loop-n l = l.items ++ all_columns_from l.n (drop l.n l.all) ≡ all_columns_from 0 l.all
