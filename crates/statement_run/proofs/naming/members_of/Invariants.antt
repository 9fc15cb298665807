-- The members of each name so far.
use Rattle.std.proofs.Common.{◌≡◌, take, map}
use Rattle.sql_bind.specs.Members.{members_named}
use Rattle.statement_run.proofs.naming.members_of.Given as goal

abbrev pub invariant-loop-name : goal.invariant-loop-name
invariant-loop-name l = l.groups ≡ map (members_named l.catalog.settings) (take l.name-index l.names)
