use Rattle.std.proofs.Common.{◌≡◌, take, map}
use Rattle.statement_plan.proofs.finishing.names_of.Given as goal

abbrev pub invariant-loop-item : goal.invariant-loop-item
invariant-loop-item l = l.names ≡ map (λ i. i.name) (take l.item-index l.shown)
