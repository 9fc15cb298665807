-- The calls so far are those of the slots so far.
use Rattle.std.proofs.Common.{◌≡◌, take}
use Rattle.run_lines.specs.Calls.{calls_of}
use Rattle.run_lines.proofs.counting.calls_of.Given as goal

abbrev pub invariant-loop-slot : goal.invariant-loop-slot
invariant-loop-slot g l = l.calls ≡ calls_of (λ s. g.C.Child.sends s.link.child) (take l.slot-index l.slots)
