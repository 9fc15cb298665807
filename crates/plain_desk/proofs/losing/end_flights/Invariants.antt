use Rattle.std.proofs.Common.{◌≡◌, ◌+◌, ◌≤◌}
use Rattle.std.specs.Vec.{vec_len}
use Rattle.rate_gate.specs.Journal.{last_tick}
use Rattle.plain_desk.specs.Grants.{AreHeld}
use Rattle.plain_desk.proofs.losing.end_flights.Given as goal

abbrev pub invariant-loop-i : goal.invariant-loop-i
invariant-loop-i l = record { held : AreHeld l.gate.journal l.flights.items; clock : last_tick l.gate.journal ≤ l.tick; left : vec_len l.flights + l.i ≡ l.count }
