-- Whether some connection that is left has another plugin is whether some has.
use Rattle.std.proofs.Common.{◌≡◌, drop}
use Rattle.std.specs.List.{list_any}
use Rattle.settings_text.specs.Aggregators.{is_strange}
use Rattle.settings_text.proofs.aggregators.some_is_strange.Given as goal

abbrev pub invariant-loop-connection : goal.invariant-loop-connection
invariant-loop-connection l = list_any (is_strange l.aggregator) (drop l.connection-index l.all) ≡ list_any (is_strange l.aggregator) l.all
