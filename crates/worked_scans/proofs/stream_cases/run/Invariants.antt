use Rattle.std.proofs.Common.{◌≡◌}
use Rattle.std.specs.Arc.{arc_value}
use Rattle.sp_model.specs.declared.call.Asked.TheVariants as asks
use Rattle.worked_scans.proofs.stream_cases.run.Given as goal

abbrev pub invariant-loop-text : goal.invariant-loop-text
invariant-loop-text l = arc_value l.asked ≡ asks.Call l.stream.call
