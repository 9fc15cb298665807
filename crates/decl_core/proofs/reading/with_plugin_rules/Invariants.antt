-- Those that are done, and then those that are left, back in their order, are all.
use Rattle.std.proofs.Common.{◌≡◌, ◌++◌, length, map}
use Rattle.std.specs.Prelude.{reverse}
use Rattle.decl_words.specs.Reading.{with_plugin_rule}
use Rattle.decl_core.proofs.reading.with_plugin_rules.Given as goal

abbrev pub invariant-loop-table : goal.invariant-loop-table
invariant-loop-table l = l.done ++ map (with_plugin_rule l.rule) (reverse l.left) ≡ map (with_plugin_rule l.rule) l.fn.tables

abbrev pub decreases-loop-table : goal.decreases-loop-table
decreases-loop-table l = length l.left
