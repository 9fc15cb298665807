-- Whether those that are left are all within the limits is whether all are.
use Rattle.std.proofs.Common.{◌≡◌, drop}
use Rattle.decl_words.specs.Limits.{keys_fit}
use Rattle.decl_core.proofs.limits.keys_fit.Given as goal

abbrev pub invariant-loop-key : goal.invariant-loop-key
invariant-loop-key l = keys_fit (drop l.key-index l.keys) ≡ keys_fit l.keys
