-- One of a list that comes to the front, seen through a function.
use Rattle.std.proofs.Common.{◌≡◌, ℕ, ◌<◌, Bool, List, [], ◌∷◌, ◌++◌, map, take, drop, suc, length, get_or, Some, None, option_map, refl, sym, ap, ◌∙◌}
use Rattle.std.proofs.lemmas.List.{map-append}
use Rattle.std.proofs.lemmas.List.Folds.{find_at}
use Rattle.std.proofs.lemmas.Option.{slice_get-map, slice_get-get_or}
use Rattle.std.specs.List.{take-map, drop-map, slice_get, remove, cons_option, find, position_or_len}
use Rattle.sp_world.specs.declared.kept_scan.KeptScan.{KeptScan}
use Rattle.query_cache.specs.Entries.{first_in_front}

module _ {X Y : Type 0} (f : X → Y) (xs : List X) (i : ℕ) where
  removed : map f (remove xs i) ≡ remove (map f xs) i
  removed = map-append f (take i xs) (drop (suc i) xs) ∙ ap (λ ys. ys ++ map f (drop (suc i) xs)) (sym (take-map f i xs)) ∙ ap (λ ys. take i (map f xs) ++ ys) (sym (drop-map f (suc i) xs))

  pub moved : (x : X) → i < length xs → x ≡ get_or xs i x → f x ∷ map f (remove xs i) ≡ cons_option (slice_get (map f xs) i) (remove (map f xs) i)
  moved x within at =
      let there = slice_get-map f xs i ∙ ap (option_map f) (slice_get-get_or xs i x within) ∙ ap (λ y. Some (f y)) (sym at) in
      sym (ap (λ o. cons_option o (remove (map f xs) i)) there ∙ ap (λ ys. f x ∷ ys) (sym removed))

  pub seen : (x : X) → i < length xs → x ≡ get_or xs i x → Some (f x) ≡ slice_get (map f xs) i
  seen x within at = sym (slice_get-map f xs i ∙ ap (option_map f) (slice_get-get_or xs i x within) ∙ ap (λ y. Some (f y)) (sym at))

none_past : {X : Type 0} (xs : List X) → slice_get xs (length xs) ≡ None
none_past [] = refl
none_past (x ∷ xs) = none_past xs

kept_past : {X : Type 0} (xs : List X) → remove xs (length xs) ≡ xs
kept_past [] = refl
kept_past (x ∷ xs) = ap (λ ys. x ∷ ys) (kept_past xs)

module _ (passes : KeptScan → Bool) (xs : List KeptScan) (n : ℕ) (first : n ≡ position_or_len passes xs) where
  pub none_passes : n ≡ length xs → None ≡ find passes xs
  none_passes past = sym (find_at passes xs ∙ ap (slice_get xs) (sym first ∙ past) ∙ none_past xs)

  pub none_moves : n ≡ length xs → xs ≡ first_in_front passes xs
  none_moves past = sym (ap (λ o. cons_option o (remove xs (position_or_len passes xs))) (sym (none_passes past)) ∙ ap (remove xs) (sym first ∙ past) ∙ kept_past xs)

  pub first_passes : slice_get xs n ≡ find passes xs
  first_passes = ap (slice_get xs) first ∙ sym (find_at passes xs)

  pub first_moves : cons_option (slice_get xs n) (remove xs n) ≡ first_in_front passes xs
  first_moves = ap (λ k. cons_option (slice_get xs k) (remove xs k)) first ∙ ap (λ o. cons_option o (remove xs (position_or_len passes xs))) (sym (find_at passes xs))
