-- What is taken out so far, and the turns of those that are left.
use Rattle.std.proofs.Common.{◌≡◌, ◌||◌, drop}
use Rattle.decl_core.specs.Taking.{after_turns, takes_one}
use Rattle.decl_core.proofs.taking.take_turns.Given as goal

abbrev pub invariant-loop-function : goal.invariant-loop-function
invariant-loop-function l =
    (after_turns l.taken (drop l.function-index l.functions) ≡ after_turns l.fn.taken l.functions)
    × ((l.some || takes_one l.taken (drop l.function-index l.functions)) ≡ takes_one l.fn.taken l.functions)
