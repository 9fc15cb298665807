use Rattle.worked_limits.specs.Held.{AreHeld}
use Rattle.worked_limits.proofs.queue_cases.taken.Given as goal

abbrev pub invariant-loop-text : goal.invariant-loop-text
invariant-loop-text l = AreHeld l.gate.journal l.held.items
