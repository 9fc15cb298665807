use Rattle.std.proofs.Common.{◌≡◌, ◌++◌, ◌&&◌, not, filter, drop}
use Rattle.sp_model.specs.Keys.{columns_of_keys, is_required, has_condition}
use Rattle.key_columns.specs.Counted.{counted}
use Rattle.key_columns.proofs.meeting.push_required.Given as goal

abbrev pub invariant-loop-key : goal.invariant-loop-key
invariant-loop-key l =
    l.missing ++ columns_of_keys (filter (λ key. is_required key && not (has_condition (counted l.given) key)) (drop l.key-index l.keys))
    ≡ l.fn.missing ++ columns_of_keys (filter (λ key. is_required key && not (has_condition (counted l.given) key)) l.keys)
