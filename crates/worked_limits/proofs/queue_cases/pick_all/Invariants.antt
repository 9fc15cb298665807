use Rattle.worked_limits.specs.Held.{AreHeld}
use Rattle.worked_limits.proofs.queue_cases.pick_all.Given as goal

abbrev pub invariant-loop-number : goal.invariant-loop-number
invariant-loop-number l = AreHeld l.gate.journal l.held.items
