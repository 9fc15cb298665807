-- A write under a key that shows a value.
use Rattle.std.proofs.Common.{◌≡◌, ℕ, zero, suc, ◌<◌, List, [], ◌∷◌, length, get_or, Option, Some, None, IsSome, arith}
use Rattle.std.proofs.lemmas.Grind.{common_steps}
use Rattle.row_pool.specs.Pools.{Pool, shown, shown_at, taken, Changes, with_value}
use Rattle.row_pool.specs.declared.held.Held.{Held}
use Rattle.row_pool.specs.declared.key.Key.{Key}

module _ {T : Type 0} where
  inside : (generation : ℕ) (slots : List (Option (Held T))) (slot : ℕ) → IsSome (shown_at generation (get_or slots slot None)) → slot < length slots
  inside generation [] slot h = absurd (cc)
  inside generation (x ∷ xs) zero h = omega arith
  inside generation (x ∷ xs) (suc slot) h = omega (arith, inside generation xs slot h)

  pub written_taken : (p : Pool T) (key : Key) (value : T) → IsSome (shown p key) → taken (with_value p key value) ≡ taken p
  written_taken p key value h = grind (arith, common_steps, inside key.generation p.slots key.slot h)

  pub written_changes : (p : Pool T) (key : Key) (value : T) → IsSome (shown p key) → Changes p (with_value p key value) key (Some value)
  written_changes p key value h = record {
    shows = grind (arith, common_steps, inside key.generation p.slots key.slot h);
    others = λ other differs. grind (arith, common_steps, inside key.generation p.slots key.slot h);
  }
