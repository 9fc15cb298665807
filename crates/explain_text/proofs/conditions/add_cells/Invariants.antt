-- Those so far, and those that are left.
use Rattle.std.proofs.Common.{◌≡◌, ◌++◌, drop}
use Rattle.std.specs.List.{filter_map}
use Rattle.explain_text.specs.Conditions.{cell_of}
use Rattle.explain_text.proofs.conditions.add_cells.Given as goal

abbrev pub invariant-loop-condition : goal.invariant-loop-condition
invariant-loop-condition l = l.sent ++ filter_map cell_of (drop l.condition-index l.conditions) ≡ l.initial.sent ++ filter_map cell_of l.conditions
