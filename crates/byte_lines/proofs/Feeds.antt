-- Where the first line feed stands.
use Rattle.std.proofs.Common.{◌≡◌, ℕ, zero, suc, ◌+◌, ◌≤◌, Bool, true, false, not, cond, List, [], ◌∷◌, ◌++◌, length, drop, None, Some, position, length-drop, arith}
use Rattle.std.specs.List.{position_or_len}
use Rattle.byte_lines.specs.Lines.{is_feed}

-- ---- the first line feed

abbrev pub first : List ℕ → ℕ
first xs = position_or_len is_feed xs

-- the first one of a byte and those after it, by whether the byte is one
abbrev pub first_of : Bool → List ℕ → ℕ
first_of b xs = cond (not b) (1 + first xs) 0

pub first_within : (xs : List ℕ) → position_or_len is_feed xs ≤ length xs
first_within [] = omega arith
first_within (x ∷ xs) =
    let later = first_within xs in
    elim (is_feed x) as (λ b. first_of b xs ≤ suc (length xs)) [ true ↦ omega arith | false ↦ omega (arith, later) ]

-- more bytes put it no earlier
pub first-append : (xs ys : List ℕ) → first xs ≤ first (xs ++ ys)
first-append [] ys = omega arith
first-append (x ∷ xs) ys =
    let later = first-append xs ys in
    elim (is_feed x) as (λ b. first_of b xs ≤ first_of b (xs ++ ys)) [ true ↦ omega arith | false ↦ omega (arith, later) ]

-- it may be sought past bytes that have none
pub first-drop : (n : ℕ) (xs : List ℕ) → n ≤ first xs → first xs ≡ n + first (drop n xs)
first-drop zero xs h = omega arith
first-drop (suc n) [] h = omega (arith, h)
first-drop (suc n) (x ∷ xs) h =
    elim (is_feed x) as (λ b. suc n ≤ first_of b xs → first_of b xs ≡ suc n + first (drop n xs)) [
      | true ↦ λ g. omega (arith, g)
      | false ↦ λ g. omega (arith, first-drop n xs (omega (arith, g)))
    ] h

pub found_past : (n at : ℕ) (xs : List ℕ) → n ≤ first xs → Some at ≡ position is_feed (drop n xs) → Some (n + at) ≡ position is_feed xs
found_past n at xs h found = grind (arith, first-drop n xs h, first_within xs, length-drop n xs)

pub missed_past : (n : ℕ) (xs : List ℕ) → n ≤ first xs → None ≡ position is_feed (drop n xs) → None ≡ position is_feed xs
missed_past n xs h missed = grind (arith, first-drop n xs h, first_within xs, length-drop n xs)

-- where there is none, all bytes stand before it
pub no_feed : (xs : List ℕ) → None ≡ position is_feed xs → length xs ≤ first xs
no_feed xs missed = grind (arith, first_within xs)
