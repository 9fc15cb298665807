use Rattle.std.proofs.Common.{◌≡◌, ◌++◌, option_map, drop}
use Rattle.serde_json.specs.View.{items_view}
use Rattle.sp_world.specs.RequestLines.{condition_list}
use Rattle.sp_world.proofs.request_reading.condition_list.Given as goal

abbrev pub invariant-loop-value : goal.invariant-loop-value
invariant-loop-value l =
    condition_list (items_view l.values.items) ≡ option_map (λ rest. l.conditions ++ rest) (condition_list (items_view (drop l.value-index l.value-items)))
