-- The connections so far, and then those that are left, are all.
use Rattle.std.proofs.Common.{◌≡◌, ◌++◌, drop, map}
use Rattle.settings_text.specs.Aggregators.{with_its_members}
use Rattle.settings_text.proofs.aggregators.with_members.Given as goal

abbrev pub invariant-loop-connection : goal.invariant-loop-connection
invariant-loop-connection l = l.done ++ map (with_its_members l.all) (drop l.connection-index l.all) ≡ map (with_its_members l.all) l.all
