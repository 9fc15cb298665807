-- The members so far.
use Rattle.std.proofs.Common.{◌≡◌, take, map}
use Rattle.sql_bind.specs.Binding.{expr_of}
use Rattle.sql_bind.proofs.conditions.+bound.Given as goal

abbrev pub invariant-exprs_of-loop-member : goal.invariant-exprs_of-loop-member
invariant-exprs_of-loop-member l = l.found ≡ map (expr_of l.looked) (take l.member-index l.members)
