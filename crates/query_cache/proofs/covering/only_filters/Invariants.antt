use Rattle.std.proofs.Common.{◌≡◌, drop, filter, not}
use Rattle.std.specs.List.{list_all}
use Rattle.sp_model.specs.Covers.{is_among}
use Rattle.sp_model.specs.Names.{has_name}
use Rattle.query_cache.proofs.covering.only_filters.Given as goal

abbrev pub invariant-loop-condition : goal.invariant-loop-condition
invariant-loop-condition l =
    list_all (λ condition. has_name l.request.subset condition.column) (filter (λ condition. not (is_among l.kept.conditions condition)) (drop l.condition-index l.request.conditions))
    ≡ list_all (λ condition. has_name l.request.subset condition.column) (filter (λ condition. not (is_among l.kept.conditions condition)) l.request.conditions)
