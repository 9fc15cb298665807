-- What was found, and what will be found among the joins that are left.
use Rattle.std.proofs.Common.{◌≡◌, ◌++◌, drop, map}
use Rattle.std.specs.List.{filter_map}
use Rattle.sql_bind.specs.Members.{known_under}
use Rattle.sql_bind.specs.Sources.{opened_by, seen_by, seen_of}
use Rattle.sql_bind.proofs.sources.seen_of.Given as goal

abbrev pub invariant-loop-join : goal.invariant-loop-join
invariant-loop-join l =
    l.found.items ++ filter_map (seen_by (known_under l.catalog)) (map opened_by (drop l.join-index l.statement.joins)) ≡ seen_of (known_under l.catalog) l.statement
