use Rattle.std.proofs.Common.{◌≡◌, take, map}
use Rattle.statement_plan.specs.Placed.{placed_item}
use Rattle.statement_plan.proofs.placing.shown_of.Given as goal

abbrev pub invariant-loop-item : goal.invariant-loop-item
invariant-loop-item l = l.places ≡ map (placed_item l.sources l.layout) (take l.item-index l.shown)
