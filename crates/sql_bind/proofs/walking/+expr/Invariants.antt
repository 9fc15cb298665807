-- The first of the members that are left is the first.
use Rattle.std.proofs.Common.{◌≡◌, drop}
use Rattle.sql_bind.specs.First.{first_of}
use Rattle.sql_bind.specs.Refusals.{broken_in}
use Rattle.sql_bind.proofs.walking.+expr.Given as goal

abbrev pub invariant-members_place-loop-member : goal.invariant-members_place-loop-member
invariant-members_place-loop-member l = first_of (broken_in l.rule l.looked) (drop l.member-index l.members) ≡ first_of (broken_in l.rule l.looked) l.members
