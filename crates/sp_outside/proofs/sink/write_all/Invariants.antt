use Rattle.std.proofs.Common.{◌≡◌, ◌++◌, ◌≤◌, ℕ, List, length}
use Rattle.std.specs.Io.KnownBytes.{Appends}
use Rattle.sp_outside.proofs.sink.write_all.Given as goal

abbrev pub invariant-loop-rest : goal.invariant-loop-rest
invariant-loop-rest g l =
    let sink = g.K.Sink in
    (done : List ℕ) × (l.text ≡ done ++ l.rest) × Appends (sink.held l.initial.sink) (sink.held l.sink) done × (sink.faulted l.initial.sink ≤ sink.faulted l.sink)

abbrev pub decreases-loop-rest : goal.decreases-loop-rest
decreases-loop-rest g l = length l.rest
