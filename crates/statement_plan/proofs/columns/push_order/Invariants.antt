use Rattle.std.proofs.Common.{◌≡◌, ◌++◌, take, map}
use Rattle.statement_plan.proofs.columns.push_order.Given as goal

abbrev pub invariant-loop-key : goal.invariant-loop-key
invariant-loop-key l = l.columns ≡ l.initial.columns ++ map (λ k. k.column) (take l.key-index l.order)
