-- Whether some pattern that is left stands for the connection is whether some does.
use Rattle.std.proofs.Common.{◌≡◌, drop}
use Rattle.std.specs.List.{list_any}
use Rattle.settings_text.specs.Aggregators.{stands_for}
use Rattle.settings_text.proofs.aggregators.some_stands_for.Given as goal

abbrev pub invariant-loop-pattern : goal.invariant-loop-pattern
invariant-loop-pattern l = list_any (stands_for l.plugin l.connection) (drop l.pattern-index l.patterns) ≡ list_any (stands_for l.plugin l.connection) l.patterns
