-- The first of that name among those left is the first.
use Rattle.std.proofs.Common.{◌≡◌, drop}
use Rattle.sp_model.specs.Hydration.{find_function}
use Rattle.plain_program.proofs.hydrate.find_function.Given as goal

abbrev pub invariant-loop-function : goal.invariant-loop-function
invariant-loop-function l = find_function l.name (drop l.function-index l.functions) ≡ find_function l.name l.functions
