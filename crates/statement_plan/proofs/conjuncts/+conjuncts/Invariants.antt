-- The conjuncts so far, and those of the members that are left.
use Rattle.std.proofs.Common.{◌≡◌, ◌++◌, map, drop}
use Rattle.std.specs.List.{flat_map}
use Rattle.statement_plan.specs.Conjuncts.{conjuncts}
use Rattle.statement_plan.proofs.conjuncts.+conjuncts.Given as goal

abbrev pub invariant-push_members-loop-member : goal.invariant-push_members-loop-member
invariant-push_members-loop-member l =
    map (λ e. e.now) l.found.items ++ flat_map conjuncts (drop l.member-index l.members) ≡ map (λ e. e.now) l.initial.found.items ++ flat_map conjuncts l.members
