-- The names so far, with the members of the connections that are left.
use Rattle.std.proofs.Common.{◌≡◌, [], drop}
use Rattle.std.specs.List.{flat_map}
use Rattle.sql_bind.specs.Answer.{each_once}
use Rattle.sql_bind.specs.Members.{members_named}
use Rattle.sql_bind.proofs.needed.members_of.Given as goal

abbrev pub invariant-loop-connection : goal.invariant-loop-connection
invariant-loop-connection l =
    each_once l.names (flat_map (members_named l.catalog.settings) (drop l.connection-index l.connections))
    ≡ each_once [] (flat_map (members_named l.catalog.settings) l.connections)
