use Rattle.std.proofs.Common.{◌≡◌, ◌++◌, filter, drop}
use Rattle.sp_model.specs.Keys.{columns_of_keys, is_any_of}
use Rattle.key_columns.proofs.meeting.push_any_of.Given as goal

abbrev pub invariant-loop-key : goal.invariant-loop-key
invariant-loop-key l = l.missing ++ columns_of_keys (filter is_any_of (drop l.key-index l.keys)) ≡ l.fn.missing ++ columns_of_keys (filter is_any_of l.keys)
