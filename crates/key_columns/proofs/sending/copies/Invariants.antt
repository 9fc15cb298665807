use Rattle.std.proofs.Common.{◌≡◌, take}
use Rattle.key_columns.proofs.sending.copies.Given as goal

abbrev pub invariant-loop-condition : goal.invariant-loop-condition
invariant-loop-condition l = l.copies.items ≡ take l.condition-index l.conditions
