-- Those so far, and those that are left.
use Rattle.std.proofs.Common.{◌≡◌, ◌++◌, drop}
use Rattle.std.specs.List.{filter_map}
use Rattle.explain_text.specs.Conditions.{value_of}
use Rattle.explain_text.proofs.conditions.values_of.Given as goal

abbrev pub invariant-loop-condition : goal.invariant-loop-condition
invariant-loop-condition l = l.values ++ filter_map value_of (drop l.condition-index l.conditions) ≡ filter_map value_of l.conditions
