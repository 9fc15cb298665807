-- A piece of a pattern taken where it first stands.
use Rattle.std.proofs.Common.{◌≡◌, ◌⊎◌, inl, inr, get_or, length-drop, zero-add, ◌≤◌, ◌<◌, ◌-◌, ◌+◌, ℕ, zero, suc, Bool, true, false, not, ◌||◌, ◌&&◌, ◌==◌, List, [], ◌∷◌, ◌++◌, length, take, drop, bytes_eq, cond, refl, ap, ◌∙◌, sym, arith}
use Rattle.std.proofs.lemmas.Bool.Decides.{nat_tests}
use Rattle.std.proofs.lemmas.List.{length-take-le, take_all}
use Rattle.std.specs.List.{ends_with, starts_with}
use Rattle.sp_value.specs.Patterns.{some_end, first_is, fits, is_literal}

and_first : (a b : Bool) → (a && b) ≡ true → a ≡ true
and_first a b h = grind arith

and_second : (a b : Bool) → (a && b) ≡ true → b ≡ true
and_second a b h = grind arith

no_star : (p : ℕ) (ps : List ℕ) → is_literal (p ∷ ps) ≡ true → (p == 42) ≡ false
no_star p ps h = grind (arith, and_first (not (p == 42)) (is_literal ps) h)

rest_literal : (p : ℕ) (ps : List ℕ) → is_literal (p ∷ ps) ≡ true → is_literal ps ≡ true
rest_literal p ps h = and_second (not (p == 42)) (is_literal ps) h

-- a byte that is no star stands for itself
own : (p : ℕ) (ps text : List ℕ) → (p == 42) ≡ false → fits (p ∷ ps) text ≡ first_is p (fits ps) text
own p ps text h = ap (λ b. cond b (some_end (fits ps) text) (first_is p (fits ps) text)) h

-- a pattern without stars fits itself alone
pub literal_fits : (w text : List ℕ) → is_literal w ≡ true → fits w text ≡ bytes_eq w text
literal_fits [] [] h = refl
literal_fits [] (c ∷ cs) h = refl
literal_fits (p ∷ ps) [] h = own p ps [] (no_star p ps h)
literal_fits (p ∷ ps) (c ∷ cs) h = own p ps (c ∷ cs) (no_star p ps h) ∙ ap (λ b. (p == c) && b) (literal_fits ps cs (rest_literal p ps h))

and_assoc : (a b c : Bool) → (a && (b && c)) ≡ ((a && b) && c)
and_assoc true b c = refl
and_assoc false b c = refl

-- what stands before the first star begins the text
pub piece_fits : (w rest text : List ℕ) → is_literal w ≡ true → fits (w ++ 42 ∷ rest) text ≡ (starts_with ◌==◌ text w && some_end (fits rest) (drop (length w) text))
piece_fits [] rest text h = refl
piece_fits (p ∷ ps) rest [] h = own p (ps ++ 42 ∷ rest) [] (no_star p ps h)
piece_fits (p ∷ ps) rest (c ∷ cs) h =
    own p (ps ++ 42 ∷ rest) (c ∷ cs) (no_star p ps h)
    ∙ ap (λ b. (p == c) && b) (piece_fits ps rest cs (rest_literal p ps h))
    ∙ and_assoc (p == c) (starts_with ◌==◌ cs ps) (some_end (fits rest) (drop (length ps) cs))

pub literal_more : (ps : List ℕ) (i : ℕ) → i < length ps → (get_or ps i 0 == 42) ≡ false → is_literal (take i ps) ≡ true → is_literal (take (suc i) ps) ≡ true
literal_more [] i h e l = absurd (omega arith)
literal_more (p ∷ ps) zero h e l = rw e refl
literal_more (p ∷ ps) (suc i) h e l =
    let first : not (p == 42) ≡ true = and_first (not (p == 42)) (is_literal (take i ps)) l in
    rw (first, literal_more ps i (omega arith) e (and_second (not (p == 42)) (is_literal (take i ps)) l)) refl

-- ---- ends of ends

or_split : (a b : Bool) → (a || b) ≡ true → (a ≡ true) ⊎ (b ≡ true)
or_split true b h = inl refl
or_split false b h = inr h

or_second : (a b : Bool) → b ≡ true → (a || b) ≡ true
or_second true b h = refl
or_second false b h = h

or_none : (a : Bool) → (a || false) ≡ a
or_none true = refl
or_none false = refl

and_none : (a b : Bool) → b ≡ false → (a && b) ≡ false
and_none true b h = h
and_none false b h = refl

alike : (a b : Bool) → (a ≡ true → b ≡ true) → (b ≡ true → a ≡ true) → a ≡ b
alike true true f g = refl
alike true false f g = sym (f refl)
alike false true f g = g refl
alike false false f g = refl

at_once : (test : List ℕ → Bool) (s : List ℕ) → test s ≡ true → some_end test s ≡ true
at_once test [] h = h
at_once test (c ∷ s) h = ap (λ b. b || some_end test s) h

sooner : (test : List ℕ → Bool) (n : ℕ) (c : ℕ) (s : List ℕ) → some_end test (drop n s) ≡ true → some_end test (drop n (c ∷ s)) ≡ true
sooner test zero c s h = or_second (test (c ∷ s)) (some_end test s) h
sooner test (suc zero) c [] h = h
sooner test (suc (suc n)) c [] h = h
sooner test (suc n) c (d ∷ s) h = sooner test n d s h

-- a piece that stands somewhere leaves no more than where it first stands
found_later : (w rest s : List ℕ) → is_literal w ≡ true → some_end (fits (w ++ 42 ∷ rest)) s ≡ true → some_end (fits rest) (drop (length w) s) ≡ true
found_later w rest [] l h = and_second (starts_with ◌==◌ [] w) (some_end (fits rest) (drop (length w) [])) (sym (piece_fits w rest [] l) ∙ h)
found_later w rest (c ∷ s) l h =
    elim (or_split (fits (w ++ 42 ∷ rest) (c ∷ s)) (some_end (fits (w ++ 42 ∷ rest)) s) h) [
      | inl e ↦ and_second (starts_with ◌==◌ (c ∷ s) w) (some_end (fits rest) (drop (length w) (c ∷ s))) (sym (piece_fits w rest (c ∷ s) l) ∙ e)
      | inr e ↦ sooner (fits rest) (length w) c s (found_later w rest s l e)
    ]

pub taken : (w rest s : List ℕ) → is_literal w ≡ true → starts_with ◌==◌ s w ≡ true → some_end (fits (w ++ 42 ∷ rest)) s ≡ some_end (fits rest) (drop (length w) s)
taken w rest s l h =
    alike _ _ (found_later w rest s l)
    (λ e. at_once (fits (w ++ 42 ∷ rest)) s (piece_fits w rest s l ∙ rw (h, e) refl))

pub missed : (w rest : List ℕ) (c : ℕ) (s : List ℕ) → is_literal w ≡ true → starts_with ◌==◌ (c ∷ s) w ≡ false → some_end (fits (w ++ 42 ∷ rest)) (c ∷ s) ≡ some_end (fits (w ++ 42 ∷ rest)) s
missed w rest c s l h = ap (λ b. b || some_end (fits (w ++ 42 ∷ rest)) s) (piece_fits w rest (c ∷ s) l ∙ ap (λ b. b && some_end (fits rest) (drop (length w) (c ∷ s))) h)

pub no_room : (p : ℕ) (ps rest : List ℕ) → is_literal (p ∷ ps) ≡ true → some_end (fits ((p ∷ ps) ++ 42 ∷ rest)) [] ≡ false
no_room p ps rest l = piece_fits (p ∷ ps) rest [] l

-- ---- the last piece ends the text

unequal : (w s : List ℕ) → (length w ≡ length s → ⊥) → bytes_eq w s ≡ false
unequal [] [] h = absurd (h refl)
unequal [] (c ∷ s) h = refl
unequal (p ∷ ps) [] h = refl
unequal (p ∷ ps) (c ∷ s) h = and_none (p == c) (bytes_eq ps s) (unequal ps s (λ e. h (ap suc e)))

drop_none : (n : ℕ) → drop {A = ℕ} n [] ≡ []
drop_none zero = refl
drop_none (suc n) = refl

apart : (a b : ℕ) → (a ≤ b) ⊎ (b < a)
apart zero b = inl (omega arith)
apart (suc a) zero = inr (omega arith)
apart (suc a) (suc b) = elim (apart a b) [ inl h ↦ inl (omega arith) | inr h ↦ inr (omega arith) ]

pub last_fits : (w s : List ℕ) → is_literal w ≡ true → some_end (fits w) s ≡ ends_with ◌==◌ s w
last_fits w [] l = literal_fits w [] l ∙ ap (bytes_eq w) (sym (drop_none (0 - length w)))
last_fits w (c ∷ s) l =
    elim (apart (length w) (length s)) [
      | inl h ↦
          let other : fits w (c ∷ s) ≡ false = literal_fits w (c ∷ s) l ∙ unequal w (c ∷ s) (λ e. omega arith) in
          let at : suc (length s) - length w ≡ suc (length s - length w) = omega arith in
          ap (λ b. b || some_end (fits w) s) other ∙ last_fits w s l ∙ ap (λ n. bytes_eq w (drop n (c ∷ s))) (sym at)
      | inr h ↦
          let at : suc (length s) - length w ≡ 0 = omega arith in
          let none : length s - length w ≡ 0 = omega arith in
          let later : some_end (fits w) s ≡ false = last_fits w s l ∙ ap (λ n. bytes_eq w (drop n s)) none ∙ unequal w s (λ e. omega arith) in
          ap (λ b. fits w (c ∷ s) || b) later ∙ or_none (fits w (c ∷ s)) ∙ literal_fits w (c ∷ s) l ∙ ap (λ n. bytes_eq w (drop n (c ∷ s))) (sym at)
    ]

-- ---- at places of a text

pub empty_taken : (w rest s : List ℕ) → length w ≡ 0 → some_end (fits (w ++ 42 ∷ rest)) s ≡ some_end (fits rest) s
empty_taken [] rest s e = taken [] rest s refl refl
empty_taken (p ∷ ps) rest s e = absurd (omega arith)

pub missed_at : (w rest s : List ℕ) (i : ℕ) → i < length s → is_literal w ≡ true → starts_with ◌==◌ (drop i s) w ≡ false
    → some_end (fits (w ++ 42 ∷ rest)) (drop i s) ≡ some_end (fits (w ++ 42 ∷ rest)) (drop (suc i) s)
missed_at w rest [] i h l e = absurd (omega arith)
missed_at w rest (c ∷ s) zero h l e = missed w rest c s l e
missed_at w rest (c ∷ s) (suc i) h l e = missed_at w rest s i (omega arith) l e

pub none_at : (w rest s : List ℕ) (i : ℕ) → length s ≤ i → (length w ≡ 0 → ⊥) → is_literal w ≡ true → some_end (fits (w ++ 42 ∷ rest)) (drop i s) ≡ false
none_at [] rest s i h some l = absurd (some refl)
none_at (p ∷ ps) rest [] i h some l = ap (some_end (fits ((p ∷ ps) ++ 42 ∷ rest))) (drop_none i) ∙ no_room p ps rest l
none_at (p ∷ ps) rest (c ∷ s) zero h some l = absurd (omega arith)
none_at (p ∷ ps) rest (c ∷ s) (suc i) h some l = none_at (p ∷ ps) rest s i (omega arith) some l

pub first_piece : (ps text : List ℕ) (n : ℕ) → n ≤ length ps → is_literal (take n ps) ≡ true → ps ≡ take n ps ++ 42 ∷ drop (n + 1) ps
    → fits ps text ≡ (starts_with ◌==◌ text (take n ps) && some_end (fits (drop (n + 1) ps)) (drop n text))
first_piece ps text n h l e =
    ap (λ qs. fits qs text) e ∙ piece_fits (take n ps) (drop (n + 1) ps) text l
    ∙ ap (λ k. starts_with ◌==◌ text (take n ps) && some_end (fits (drop (n + 1) ps)) (drop k text)) (length-take-le n ps h)

-- ---- what code compares and cuts

pub other_byte : (x : ℕ) → (x ≡ 42 → ⊥) → (x == 42) ≡ false
other_byte x h = grind (arith, nat_tests)

pub is_none : (n : ℕ) → (n == 0) ≡ true → n ≡ 0
is_none n h = grind (arith, nat_tests)

pub is_some : (n : ℕ) → (n == 0) ≡ false → n ≡ 0 → ⊥
is_some n h e = grind (arith, nat_tests)

-- `&s[i..]`
pub cut : (s : List ℕ) (i : ℕ) → take (length s - i) (drop i s) ≡ drop i s
cut s i = take_all (length s - i) (drop i s) (omega (arith, length-drop i s))

pub drop_twice : (s : List ℕ) (i n : ℕ) → drop n (drop i s) ≡ drop (i + n) s
drop_twice s zero n = ap (λ k. drop k s) (sym (zero-add n))
drop_twice [] (suc i) n = drop_none n ∙ sym (drop_none (suc i + n))
drop_twice (c ∷ s) (suc i) n = let e : suc i + n ≡ suc (i + n) = omega arith in drop_twice s i n ∙ ap (λ k. drop k (c ∷ s)) (sym e)
