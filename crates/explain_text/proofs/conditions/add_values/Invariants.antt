-- Those so far, and those that are left.
use Rattle.std.proofs.Common.{◌≡◌, ◌++◌, drop, map}
use Rattle.explain_text.specs.declared.conditions.Sent.TheVariants as sent
use Rattle.explain_text.proofs.conditions.add_values.Given as goal

abbrev pub invariant-loop-condition : goal.invariant-loop-condition
invariant-loop-condition l = l.sent ++ map sent.Value (drop l.condition-index l.conditions) ≡ l.initial.sent ++ map sent.Value l.conditions
