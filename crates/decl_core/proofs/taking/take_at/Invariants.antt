-- What is taken out so far, and the turns of those that are left.
use Rattle.std.proofs.Common.{◌≡◌, drop}
use Rattle.decl_core.specs.Taking.{after_turns, at_places}
use Rattle.decl_core.proofs.taking.take_at.Given as goal

abbrev pub invariant-loop-place : goal.invariant-loop-place
invariant-loop-place l = after_turns l.taken (at_places l.functions (drop l.place-index l.places)) ≡ after_turns l.fn.taken (at_places l.functions l.places)
