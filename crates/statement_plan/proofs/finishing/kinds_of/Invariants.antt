use Rattle.std.proofs.Common.{◌≡◌, take, map}
use Rattle.statement_plan.proofs.finishing.kinds_of.Given as goal

abbrev pub invariant-loop-item : goal.invariant-loop-item
invariant-loop-item l = l.kinds ≡ map (λ i. i.kind) (take l.item-index l.shown)
