use Rattle.std.proofs.Common.{◌≡◌, ◌++◌, take, map}
use Rattle.std.specs.List.{flat_map}
use Rattle.statement_plan.specs.Columns.{columns_of}
use Rattle.statement_plan.proofs.columns.+reads.Given as goal

abbrev pub invariant-push_all-loop-member : goal.invariant-push_all-loop-member
invariant-push_all-loop-member l = l.columns ≡ l.initial.columns ++ flat_map (λ cs. cs) (map columns_of (take l.member-index l.members))
