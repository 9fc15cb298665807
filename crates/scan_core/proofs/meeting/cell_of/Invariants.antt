use Rattle.std.proofs.Common.{◌≡◌, drop}
use Rattle.sp_model.specs.Walk.{cell_of}
use Rattle.scan_core.proofs.meeting.cell_of.Given as goal

abbrev pub invariant-loop-index : goal.invariant-loop-index
invariant-loop-index l = cell_of (drop l.index l.columns) (drop l.index l.cells) l.name ≡ cell_of l.columns l.cells l.name
