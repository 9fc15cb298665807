use Rattle.std.proofs.Common.{◌≡◌, take, map}
use Rattle.statement_plan.specs.Placed.{placed_key}
use Rattle.statement_plan.proofs.placing.order_of.Given as goal

abbrev pub invariant-loop-key : goal.invariant-loop-key
invariant-loop-key l = l.keys ≡ map (placed_key l.sources l.layout) (take l.key-index l.order)
