use Rattle.std.proofs.Common.{◌≡◌, ◌++◌, take, map}
use Rattle.statement_plan.proofs.columns.push_shown.Given as goal

abbrev pub invariant-loop-item : goal.invariant-loop-item
invariant-loop-item l = l.columns ≡ l.initial.columns ++ map (λ i. i.column) (take l.item-index l.shown)
