-- The first unknown connection of the joins that are left is the first.
use Rattle.std.proofs.Common.{◌≡◌, drop, map}
use Rattle.sql_bind.specs.First.{first_of}
use Rattle.sql_bind.specs.Refusals.{connection_place, unknown_connection}
use Rattle.sql_bind.specs.Sources.{opened_by}
use Rattle.sql_bind.proofs.sources.unknown_connection.Given as goal

abbrev pub invariant-loop-join : goal.invariant-loop-join
invariant-loop-join l = first_of (connection_place l.catalog.settings) (map opened_by (drop l.join-index l.statement.joins)) ≡ unknown_connection l.catalog.settings l.statement
