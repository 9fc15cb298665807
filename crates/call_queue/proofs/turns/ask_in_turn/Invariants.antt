use Rattle.std.proofs.Common.{◌≡◌, take}
use Rattle.call_queue.specs.Turns.{AreHeld}
use Rattle.call_queue.proofs.turns.ask_in_turn.Given as goal

abbrev pub invariant-loop-place : goal.invariant-loop-place
invariant-loop-place l = record {
  same : l.gate ≡ l.fn.gate;
  held : AreHeld l.fn.gate l.tick (take l.place l.jobs.items) l.next;
}
