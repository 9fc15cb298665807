-- The names so far, and then those of the members that are left, are all.
use Rattle.std.proofs.Common.{◌≡◌, ◌++◌, drop, map, filter}
use Rattle.sp_model.specs.declared.settings.Connection.{Connection}
use Rattle.settings_text.specs.Aggregators.{is_member}
use Rattle.settings_text.proofs.aggregators.member_names.Given as goal

abbrev pub invariant-loop-connection : goal.invariant-loop-connection
invariant-loop-connection l =
    l.names ++ map (λ (m : Connection). m.name) (filter (is_member l.aggregator) (drop l.connection-index l.all)) ≡ map (λ (m : Connection). m.name) (filter (is_member l.aggregator) l.all)
