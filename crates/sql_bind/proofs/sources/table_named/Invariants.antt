-- The first table of that name among those left is the first.
use Rattle.std.proofs.Common.{◌≡◌, drop}
use Rattle.sql_bind.specs.Sources.{first_table}
use Rattle.sql_bind.proofs.sources.table_named.Given as goal

abbrev pub invariant-loop-table : goal.invariant-loop-table
invariant-loop-table l = first_table l.name (drop l.table-index l.declaration.tables) ≡ first_table l.name l.declaration.tables
