use Rattle.std.proofs.Common.{◌≡◌, ◌++◌, filter, drop}
use Rattle.sp_model.specs.Keys.{is_sent}
use Rattle.key_columns.proofs.sending.copies_of_sent.Given as goal

abbrev pub invariant-loop-condition : goal.invariant-loop-condition
invariant-loop-condition l = l.found.items ++ filter (is_sent l.keys) (drop l.condition-index l.conditions) ≡ filter (is_sent l.keys) l.conditions
