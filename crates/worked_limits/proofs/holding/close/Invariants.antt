use Rattle.std.proofs.Common.{◌≡◌, ◌+◌, ◌≤◌}
use Rattle.std.specs.Vec.{vec_len}
use Rattle.rate_gate.specs.Journal.{last_tick}
use Rattle.worked_limits.specs.Held.{AreOpen}
use Rattle.worked_limits.proofs.holding.close.Given as goal

abbrev pub invariant-loop-place : goal.invariant-loop-place
invariant-loop-place l = (vec_len l.held + l._place ≡ l.count) × AreOpen l.gate.journal l.held.items × (last_tick l.gate.journal ≤ l.tick)
