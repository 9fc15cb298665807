-- Keys that are all exact leave no subset.
use Rattle.std.proofs.Common.{◌≡◌, Bool, true, false, ◌&&◌, not, if◌then◌else◌, List, [], ◌∷◌, map, filter, refl}
use Rattle.std.specs.List.{list_all}
use Rattle.sp_model.specs.Requests.{subset_names}
use Rattle.sp_model.specs.SubsetKeys.{is_subset}
use Rattle.sp_model.specs.declared.declaration.KeyDecl.{KeyDecl}

abbrev are_exact : List KeyDecl → Bool
are_exact keys = list_all (λ (key : KeyDecl). not (is_subset key.matching)) keys

pub exact_leaves_none : (keys : List KeyDecl) → are_exact keys ≡ true → subset_names keys ≡ []
exact_leaves_none [] h = refl
exact_leaves_none (k ∷ ks) h = go (is_subset k.matching) h (exact_leaves_none ks)
  where
    go : (b : Bool) → (not b && are_exact ks) ≡ true → (are_exact ks ≡ true → subset_names ks ≡ [])
        → map (λ (key : KeyDecl). key.column) (if b then k ∷ filter (λ (key : KeyDecl). is_subset key.matching) ks else filter (λ (key : KeyDecl). is_subset key.matching) ks) ≡ []
    go true h rest = cc
    go false h rest = rest h
