-- Slots keep their connections.
use Rattle.std.proofs.Common.{◌≡◌, ℕ, zero, suc, List, [], ◌∷◌, map, refl, ap}
use Rattle.std.specs.Prelude.{slice_set, get_or}

pub map_set : {A B : Type 0} (xs : List A) (at : ℕ) (d y : A) (f : A → B) → f y ≡ f (get_or xs at d) → map f (slice_set xs at y) ≡ map f xs
map_set [] zero d y f same = refl
map_set [] (suc at) d y f same = refl
map_set (x ∷ xs) zero d y f same = ap (λ z. z ∷ map f xs) same
map_set (x ∷ xs) (suc at) d y f same = ap (λ l. f x ∷ l) (map_set xs at d y f same)
