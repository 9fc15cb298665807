use Rattle.std.proofs.Common.{◌≡◌, Some, map, take}
use Rattle.serde_json.specs.View.{view}
use Rattle.sp_value.specs.Json.{cell_of, data_of}
use Rattle.sp_world.specs.RequestLines.{condition_data}
use Rattle.sp_world.proofs.request_json.conditions_json.Given as goal

abbrev pub invariant-loop-condition : goal.invariant-loop-condition
invariant-loop-condition l =
    (map view l.values.items ≡ map condition_data (take l.condition-index l.conditions))
    × (map (λ k. cell_of (data_of k.value)) (take l.condition-index l.conditions) ≡ map (λ k. Some k.value) (take l.condition-index l.conditions))
