-- The names so far, with those of the joins that are left.
use Rattle.std.proofs.Common.{◌≡◌, drop, map}
use Rattle.sql_bind.specs.Answer.{each_once, connections_named}
use Rattle.sql_bind.specs.Sources.{opened_by}
use Rattle.sql_bind.proofs.needed.connections_named.Given as goal

abbrev pub invariant-loop-join : goal.invariant-loop-join
invariant-loop-join l =
    each_once l.names (map (λ o. o.source.connection.text) (map opened_by (drop l.join-index l.statement.joins))) ≡ connections_named l.statement
