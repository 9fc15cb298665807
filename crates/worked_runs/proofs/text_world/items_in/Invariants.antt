use Rattle.std.proofs.Common.{◌≡◌, ◌++◌, drop}
use Rattle.serde_json.specs.View.{items_view}
use Rattle.worked_runs.specs.TextWorld.{items_in}
use Rattle.worked_runs.proofs.text_world.items_in.Given as goal

abbrev pub invariant-loop-value : goal.invariant-loop-value
invariant-loop-value l = items_in (items_view l.values.items) ≡ l.items ++ items_in (items_view (drop l.value-index l.value-items))
