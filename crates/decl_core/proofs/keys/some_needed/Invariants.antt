-- Whether one of those that are left is needed is whether one is.
use Rattle.std.proofs.Common.{◌≡◌, drop, not}
use Rattle.std.specs.List.{list_any}
use Rattle.decl_words.specs.Keys.{is_optional}
use Rattle.decl_core.proofs.keys.some_needed.Given as goal

abbrev pub invariant-loop-key : goal.invariant-loop-key
invariant-loop-key l = list_any (λ k. not (is_optional k.need)) (drop l.key-index l.keys) ≡ list_any (λ k. not (is_optional k.need)) l.keys
