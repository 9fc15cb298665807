-- The first undeclared table of the joins that are left is the first.
use Rattle.std.proofs.Common.{◌≡◌, drop, map}
use Rattle.sql_bind.specs.First.{first_of}
use Rattle.sql_bind.specs.Members.{known_under}
use Rattle.sql_bind.specs.Refusals.{table_place, unknown_table}
use Rattle.sql_bind.specs.Sources.{opened_by}
use Rattle.sql_bind.proofs.sources.unknown_table.Given as goal

abbrev pub invariant-loop-join : goal.invariant-loop-join
invariant-loop-join l = first_of (table_place (known_under l.catalog)) (map opened_by (drop l.join-index l.statement.joins)) ≡ unknown_table (known_under l.catalog) l.statement
