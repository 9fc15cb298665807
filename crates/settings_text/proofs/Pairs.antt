-- An array of fewer or more than two items is no pair.
use Rattle.std.proofs.Common.{◌≡◌, ◌<◌, ◌≤◌, List, [], ◌∷◌, length, None, refl, arith}
use Rattle.toml.specs.View.{items_view}
use Rattle.toml.specs.declared.value.Value.{Value}
use Rattle.settings_text.specs.Members.{pair_in}

pub pair_in-short : (vs : List Value) → length vs < 2 → None ≡ pair_in (items_view vs)
pair_in-short [] h = refl
pair_in-short (a ∷ []) h = refl
pair_in-short (a ∷ b ∷ vs) h = absurd (omega arith)

pub pair_in-long : (vs : List Value) → 3 ≤ length vs → None ≡ pair_in (items_view vs)
pair_in-long [] h = absurd (omega arith)
pair_in-long (a ∷ []) h = absurd (omega arith)
pair_in-long (a ∷ b ∷ []) h = absurd (omega arith)
pair_in-long (a ∷ b ∷ v ∷ vs) h = refl
