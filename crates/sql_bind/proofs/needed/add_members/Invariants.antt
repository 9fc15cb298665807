-- The names so far, with the members that are left.
use Rattle.std.proofs.Common.{◌≡◌, drop}
use Rattle.sql_bind.specs.Answer.{each_once}
use Rattle.sql_bind.specs.Members.{members_named}
use Rattle.sql_bind.proofs.needed.add_members.Given as goal

abbrev pub invariant-loop-member : goal.invariant-loop-member
invariant-loop-member l = each_once l.names (drop l.member-index l.member-items) ≡ each_once l.initial.names (members_named l.catalog.settings l.name)
