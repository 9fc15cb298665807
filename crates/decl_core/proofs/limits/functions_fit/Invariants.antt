-- Whether those that are left are all within the limits is whether all are.
use Rattle.std.proofs.Common.{◌≡◌, drop}
use Rattle.std.specs.List.{list_all}
use Rattle.decl_words.specs.Limits.{function_fits}
use Rattle.decl_core.proofs.limits.functions_fit.Given as goal

abbrev pub invariant-loop-function : goal.invariant-loop-function
invariant-loop-function l = list_all function_fits (drop l.function-index l.functions) ≡ list_all function_fits l.functions
