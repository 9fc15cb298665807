-- Whether some pattern that is left names the connection is whether some does.
use Rattle.std.proofs.Common.{◌≡◌, drop}
use Rattle.std.specs.List.{list_any}
use Rattle.settings_text.specs.Aggregators.{is_named_by}
use Rattle.settings_text.proofs.aggregators.is_named_by_some.Given as goal

abbrev pub invariant-loop-pattern : goal.invariant-loop-pattern
invariant-loop-pattern l = list_any (is_named_by l.connection) (drop l.pattern-index l.patterns) ≡ list_any (is_named_by l.connection) l.patterns
