use Rattle.std.proofs.Common.{◌≡◌, replicate}
use Rattle.row_flight.specs.Attempts.{fresh}
use Rattle.row_flight.proofs.attempts.Attempts.begin.Given as goal

abbrev pub invariant-loop-slot : goal.invariant-loop-slot
invariant-loop-slot l = l.attempts.items ≡ replicate l._slot fresh
