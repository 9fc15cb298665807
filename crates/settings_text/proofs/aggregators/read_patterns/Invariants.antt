-- The patterns so far, and then those that are left, are all.
use Rattle.std.proofs.Common.{◌≡◌, ◌++◌, drop}
use Rattle.settings_text.proofs.aggregators.read_patterns.Given as goal

abbrev pub invariant-loop-text : goal.invariant-loop-text
invariant-loop-text l = l.patterns ++ drop l.text-index l.texts ≡ l.texts
