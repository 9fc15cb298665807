use Rattle.std.proofs.Common.{◌≡◌}
use Rattle.serde_json.specs.View.{members_view}
use Rattle.sp_world.specs.RequestLines.{are_results}
use Rattle.sp_world.proofs.request_reading.are_results.Given as goal

abbrev pub invariant-loop-name : goal.invariant-loop-name
invariant-loop-name l = are_results (members_view l._name-iterator) ≡ are_results (members_view l.members.entries)
