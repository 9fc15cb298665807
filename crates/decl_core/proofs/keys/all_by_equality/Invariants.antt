-- Whether those that are left all have `=` alone is whether all have.
use Rattle.std.proofs.Common.{◌≡◌, drop}
use Rattle.std.specs.List.{list_all}
use Rattle.decl_words.specs.Keys.{are_equalities}
use Rattle.decl_core.proofs.keys.all_by_equality.Given as goal

abbrev pub invariant-loop-key : goal.invariant-loop-key
invariant-loop-key l = list_all (λ k. are_equalities k.operators) (drop l.key-index l.keys) ≡ list_all (λ k. are_equalities k.operators) l.keys
