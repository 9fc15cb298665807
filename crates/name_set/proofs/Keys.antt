-- The names of a set of lent texts.
use Rattle.std.proofs.Common.{◌≡◌, ℕ, List, [], ◌∷◌, ◌++◌, map, bytes_eq, Bool, true, false, not, ◌||◌, refl, ap, Bor, position, cond}
use Rattle.std.proofs.lemmas.List.{length-map, map-append}
use Rattle.std.specs.List.{list_any, position_or_len}
use Rattle.indexmap.specs.IndexSet.{insert_key}
use Rattle.sp_model.specs.Names.{has_name}

abbrev pub names : List (Bor (List ℕ)) → List (List ℕ)
names keys = map (λ k. k.now) keys

-- a name is among the keys where it is among their names
pub has_name_keys : (name : List ℕ) (keys : List (Bor (List ℕ))) → has_name (names keys) name ≡ list_any (λ k. bytes_eq name k.now) keys
has_name_keys name [] = refl
has_name_keys name (k ∷ ks) = ap (λ b. bytes_eq name k.now || b) (has_name_keys name ks)

place_or_len : (name : List ℕ) (keys : List (Bor (List ℕ))) → position_or_len (bytes_eq name) (names keys) ≡ position_or_len (λ k. bytes_eq name k.now) keys
place_or_len name [] = refl
place_or_len name (k ∷ ks) = rw (place_or_len name ks) refl

-- and stands at the same place
pub position_of_key : (name : List ℕ) (keys : List (Bor (List ℕ))) → position (bytes_eq name) (names keys) ≡ position (λ k. bytes_eq name k.now) keys
position_of_key name keys = rw (place_or_len name keys, length-map keys (λ k. k.now)) refl

-- a name that goes to the end of the keys goes to the end of their names
pub names_of_insert : (name : Bor (List ℕ)) (keys : List (Bor (List ℕ)))
    → names (insert_key (λ x y. bytes_eq x.now y.now) keys name) ≡ cond (not (has_name (names keys) name.now)) (names keys ++ name.now ∷ []) (names keys)
names_of_insert name keys = rw (has_name_keys name.now keys) (by (list_any (λ k. bytes_eq name.now k.now) keys))
  where
    by : (b : Bool) → names (cond b keys (keys ++ name ∷ [])) ≡ cond (not b) (names keys ++ name.now ∷ []) (names keys)
    by true = refl
    by false = map-append (λ k. k.now) keys (name ∷ [])
