use Rattle.std.proofs.Common.{◌≡◌, take}
use Rattle.child_link.specs.Open.{calls_of}
use Rattle.child_link.proofs.flight.pending_calls.Given as goal

-- the calls so far
abbrev pub invariant-loop-flight : goal.invariant-loop-flight
invariant-loop-flight l = l.calls ≡ calls_of (take l.flight-index l.flights)
