use Rattle.std.proofs.Common.{◌≡◌, drop}
use Rattle.sp_model.specs.Hydration.{find_function}
use Rattle.rate_gate.proofs.tagging.find_function.Given as goal

-- the first of that name among those left is the first
abbrev pub invariant-loop-function : goal.invariant-loop-function
invariant-loop-function l = find_function l.name (drop l.function-index l.functions) ≡ find_function l.name l.functions
