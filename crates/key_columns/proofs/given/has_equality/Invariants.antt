use Rattle.std.proofs.Common.{◌≡◌, filter, drop}
use Rattle.sp_model.specs.Keys.{has_condition, is_equality}
use Rattle.key_columns.proofs.given.has_equality.Given as goal

abbrev pub invariant-loop-condition : goal.invariant-loop-condition
invariant-loop-condition l = has_condition (filter is_equality (drop l.condition-index l.conditions)) l.key ≡ has_condition (filter is_equality l.conditions) l.key
