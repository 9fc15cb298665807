use Rattle.std.proofs.Common.{◌≡◌, drop}
use Rattle.sp_model.specs.Walk.{meets}
use Rattle.scan_core.proofs.meeting.meets.Given as goal

abbrev pub invariant-loop-condition : goal.invariant-loop-condition
invariant-loop-condition l = meets (drop l.condition-index l.conditions) l.columns l.cells ≡ meets l.conditions l.columns l.cells
