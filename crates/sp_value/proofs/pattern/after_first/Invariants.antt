use Rattle.std.proofs.Common.{◌≡◌, ◌++◌, ◌∷◌, ℕ, List, drop}
use Rattle.sp_value.specs.Patterns.{fits, some_end}
use Rattle.sp_value.proofs.pattern.after_first.Given as goal

abbrev pub invariant-loop-start : goal.invariant-loop-start
invariant-loop-start l = (rest : List ℕ) → some_end (fits (l.piece ++ 42 ∷ rest)) l.text ≡ some_end (fits (l.piece ++ 42 ∷ rest)) (drop l.start l.text)
