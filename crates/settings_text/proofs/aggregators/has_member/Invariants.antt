-- Whether some connection that is left is a member is whether some is.
use Rattle.std.proofs.Common.{◌≡◌, drop}
use Rattle.std.specs.List.{list_any}
use Rattle.settings_text.specs.Aggregators.{is_member}
use Rattle.settings_text.proofs.aggregators.has_member.Given as goal

abbrev pub invariant-loop-connection : goal.invariant-loop-connection
invariant-loop-connection l = list_any (is_member l.aggregator) (drop l.connection-index l.all) ≡ list_any (is_member l.aggregator) l.all
