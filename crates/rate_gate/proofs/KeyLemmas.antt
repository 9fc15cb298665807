-- Keys tell lists of values apart.
use Rattle.std.proofs.Common.{◌≡◌, ℕ, zero, suc, ◌+◌, ◌<◌, ◌≤◌, Bool, ◌&&◌, List, [], ◌∷◌, ◌++◌, length, map, take, drop, get_or, refl, sym, ap, ◌∙◌, arith, length-append, append_assoc, append-nil}
use Rattle.std.proofs.lemmas.List.{take_more, map-append, take-append-drop}
use Rattle.std.proofs.lemmas.Bool.Decides.{same_from_decides}
use Rattle.std.proofs.lemmas.Slice.Eq.{slice_eq-Decides, bytes_eq-Decides}
use Rattle.std.proofs.Math.Path.{fun_ext}
use Rattle.std.specs.Bool.{Decides}
use Rattle.std.specs.Cmp.Lexicographic.{pointwise}
use Rattle.std.specs.Str.{bytes_eq}
use Rattle.sp_model.specs.declared.settings.Limiter.{Limiter}
use Rattle.rate_gate.specs.declared.tag_list.TagList.{TagList}
use Rattle.rate_gate.specs.Keys.{spelled, key_of, by_key}
use Rattle.rate_gate.specs.Limits.{applies, scope_values, in_instance}

abbrev head_or : List ℕ → ℕ
head_or [] = 0
head_or (x ∷ xs) = x

abbrev tail_of : List ℕ → List ℕ
tail_of [] = []
tail_of (x ∷ xs) = xs

abbrev less_one : ℕ → ℕ
less_one zero = zero
less_one (suc n) = n

spelled_apart : (a b r s : List ℕ) → spelled a ++ r ≡ spelled b ++ s → (a ≡ b) × (r ≡ s)
spelled_apart [] [] r s h = (refl, ap tail_of h)
spelled_apart [] (b ∷ bs) r s h = absurd (omega (arith, ap head_or h))
spelled_apart (a ∷ rest) [] r s h = absurd (omega (arith, ap head_or h))
spelled_apart (a ∷ rest) (b ∷ bs) r s h =
    let more = spelled_apart rest bs r s (ap tail_of h) in
    let one : a ≡ b = ap (λ (xs : List ℕ). less_one (head_or xs)) h in
    (rw (one, more.0) refl, more.1)

pub length_spelled : (v : List ℕ) → length (spelled v) ≡ length v + 1
length_spelled [] = refl
length_spelled (b ∷ bs) = omega (arith, length_spelled bs)

key_apart : (xs ys : List (List ℕ)) → key_of xs ≡ key_of ys → xs ≡ ys
key_apart [] [] h = refl
key_apart [] (y ∷ ys) h = absurd (omega (arith, ap length h, length-append (spelled y) (key_of ys), length_spelled y))
key_apart (x ∷ xs) [] h = absurd (omega (arith, ap length h, length-append (spelled x) (key_of xs), length_spelled x))
key_apart (x ∷ xs) (y ∷ ys) h = let p = spelled_apart x y (key_of xs) (key_of ys) h in rw (p.0, key_apart xs ys p.1) refl

-- two lists of values are the same exactly where their keys are
same_key : (xs ys : List (List ℕ)) → pointwise bytes_eq xs ys ≡ bytes_eq (key_of xs) (key_of ys)
same_key xs ys =
    let here : Decides (bytes_eq (key_of xs) (key_of ys)) (xs ≡ ys) =
    (λ t. key_apart xs ys ((bytes_eq-Decides (key_of xs) (key_of ys)).0 t), λ e. (bytes_eq-Decides (key_of xs) (key_of ys)).1 (ap key_of e)) in
    same_from_decides (pointwise bytes_eq xs ys) (bytes_eq (key_of xs) (key_of ys)) (slice_eq-Decides bytes_eq-Decides xs ys (pointwise bytes_eq xs ys) refl) here

pub by_values : (l : Limiter) (values : List (List ℕ)) → in_instance l values ≡ by_key l (key_of values)
by_values l values = fun_ext (λ (tags : TagList). ap (λ (b : Bool). applies l tags && b) (same_key (scope_values l tags) values))

-- ---- a key that is written value by value

key_append : (xs ys : List (List ℕ)) → key_of (xs ++ ys) ≡ key_of xs ++ key_of ys
key_append [] ys = refl
key_append (x ∷ xs) ys = ap (λ (zs : List ℕ). spelled x ++ zs) (key_append xs ys) ∙ sym (append_assoc (spelled x) (key_of xs) (key_of ys))

pub key_next : {X : Type 0} (f : X → List ℕ) (xs : List X) (i : ℕ) (d : X) → i < length xs
    → key_of (map f (take (i + 1) xs)) ≡ key_of (map f (take i xs)) ++ spelled (f (get_or xs i d))
key_next {X} f xs i d lt =
    ap (λ (ys : List X). key_of (map f ys)) (take_more xs i d lt) ∙ ap key_of (map-append f (take i xs) (get_or xs i d ∷ []))
    ∙ key_append (map f (take i xs)) (f (get_or xs i d) ∷ []) ∙ ap (λ (ys : List ℕ). key_of (map f (take i xs)) ++ ys) (append-nil (spelled (f (get_or xs i d))))

pub key_part : {X : Type 0} (f : X → List ℕ) (xs : List X) (i : ℕ) (d : X) → i < length xs
    → length (key_of (map f (take i xs))) + length (spelled (f (get_or xs i d))) ≤ length (key_of (map f xs))
key_part {X} f xs i d lt =
    let next = ap length (key_next f xs i d lt) in
    let whole : length (key_of (map f xs)) ≡ length (key_of (map f (take (i + 1) xs)) ++ key_of (map f (drop (i + 1) xs))) =
    ap length (ap (λ (ys : List X). key_of (map f ys)) (sym (take-append-drop (i + 1) xs)) ∙ ap key_of (map-append f (take (i + 1) xs) (drop (i + 1) xs))
    ∙ key_append (map f (take (i + 1) xs)) (map f (drop (i + 1) xs))) in
    omega (arith, next, whole, length-append (key_of (map f (take i xs))) (spelled (f (get_or xs i d))), length-append (key_of (map f (take (i + 1) xs))) (key_of (map f (drop (i + 1) xs))))
