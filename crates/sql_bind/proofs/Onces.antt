-- Names taken once, a part after another.
use Rattle.std.proofs.Common.{◌≡◌, ◌<◌, ℕ, ◌+◌, List, [], ◌∷◌, ◌++◌, length, drop, get_or, refl, sym, ap, ◌∙◌}
use Rattle.std.specs.List.{flat_map}
use Rattle.sql_bind.proofs.Firsts.{rest_is}
use Rattle.sql_bind.specs.Answer.{with_name, each_once}

pub each_once_append : (found xs ys : List (List ℕ)) → each_once found (xs ++ ys) ≡ each_once (each_once found xs) ys
each_once_append found [] ys = refl
each_once_append found (x ∷ xs) ys = each_once_append (with_name found x) xs ys

-- a name more, with what it stands for
pub once_more : (f : List ℕ → List (List ℕ)) (found : List (List ℕ)) (names : List (List ℕ)) (i : ℕ) (name : List ℕ) → i < length names → name ≡ get_or names i name
    → each_once (each_once found (f name)) (flat_map f (drop (i + 1) names)) ≡ each_once found (flat_map f (drop i names))
once_more f found names i name within is =
    sym (ap (λ l. each_once found (flat_map f l)) (rest_is names i name within is) ∙ each_once_append found (f name) (flat_map f (drop (i + 1) names)))
