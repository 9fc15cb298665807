use Rattle.std.proofs.Common.{◌≡◌, ◌++◌, map, filter, not, drop}
use Rattle.sp_model.specs.Covers.{is_among}
use Rattle.query_cache.specs.Places.{placed_condition}
use Rattle.query_cache.proofs.placing.further_conditions.Given as goal

abbrev pub invariant-loop-condition : goal.invariant-loop-condition
invariant-loop-condition l =
    l.found.items ++ map (placed_condition l.kept.columns) (filter (λ condition. not (is_among l.kept.conditions condition)) (drop l.condition-index l.request.conditions))
    ≡ map (placed_condition l.kept.columns) (filter (λ condition. not (is_among l.kept.conditions condition)) l.request.conditions)
