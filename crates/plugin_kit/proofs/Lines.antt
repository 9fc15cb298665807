-- The first line of bytes.
use Rattle.std.proofs.Common.{◌≡◌, ℕ, suc, ◌+◌, ◌≤◌, ◌<◌, Bool, true, false, cond, List, [], ◌∷◌, ◌++◌, length, take, drop, refl, ap, subst, arith}
use Rattle.byte_lines.specs.Lines.{is_feed, begin, lines_of}
use Rattle.byte_lines.proofs.Feeds.{first, first_of}

-- the lines of a byte and of bytes after it, by whether the byte is a line feed
abbrev lines_by : Bool → ℕ → List (List ℕ) → List (List ℕ)
lines_by b x later = cond b ([] ∷ later) (begin x later)

-- up to its line feed
pub line_before : (bytes more : List ℕ) → first bytes < length bytes → lines_of (bytes ++ more) ≡ take (first bytes) bytes ∷ lines_of (drop (suc (first bytes)) bytes ++ more)
line_before [] more h = absurd (omega (arith, h))
line_before (x ∷ xs) more h =
    elim (is_feed x) as (λ b. first_of b xs < suc (length xs)
    → lines_by b x (lines_of (xs ++ more)) ≡ take (first_of b xs) (x ∷ xs) ∷ lines_of (drop (suc (first_of b xs)) (x ∷ xs) ++ more)) [
      | true ↦ λ g. refl
      | false ↦ λ g.
          let one : suc (first xs) ≡ 1 + first xs = omega arith in
          subst (λ (n : ℕ). begin x (lines_of (xs ++ more)) ≡ take n (x ∷ xs) ∷ lines_of (drop n xs ++ more)) one (ap (begin x) (line_before xs more (omega (arith, g))))
    ] h

-- where there is none, the line goes on
pub record GoesOn (bytes : List ℕ) (lines : List (List ℕ)) : Type 0 where
  pub tail : List ℕ
  pub later : List (List ℕ)
  pub is : lines ≡ (bytes ++ tail) ∷ later

begin_any : (x : ℕ) (lines : List (List ℕ)) → GoesOn (x ∷ []) (begin x lines)
begin_any x [] = record { tail = []; later = []; is = refl }
begin_any x (line ∷ lines) = record { tail = line; later = lines; is = refl }

pub line_goes_on : (x : ℕ) (xs more : List ℕ) → length (x ∷ xs) ≤ first (x ∷ xs) → GoesOn (x ∷ xs) (lines_of (x ∷ xs ++ more))
line_goes_on x [] more h =
    elim (is_feed x) as (λ b. 1 ≤ first_of b [] → GoesOn (x ∷ []) (lines_by b x (lines_of more))) [
      | true ↦ λ g. absurd (omega (arith, g))
      | false ↦ λ g. begin_any x (lines_of more)
    ] h
line_goes_on x (y ∷ xs) more h =
    elim (is_feed x) as (λ b. suc (length (y ∷ xs)) ≤ first_of b (y ∷ xs) → GoesOn (x ∷ y ∷ xs) (lines_by b x (lines_of (y ∷ xs ++ more)))) [
      | true ↦ λ g. absurd (omega (arith, g))
      | false ↦ λ g. let rest = line_goes_on y xs more (omega (arith, g)) in record { tail = rest.tail; later = rest.later; is = ap (begin x) rest.is }
    ] h

-- and at the end of the bytes it is all of them
pub line_at_end : (x : ℕ) (xs : List ℕ) → length (x ∷ xs) ≤ first (x ∷ xs) → lines_of (x ∷ xs) ≡ (x ∷ xs) ∷ []
line_at_end x [] h =
    elim (is_feed x) as (λ b. 1 ≤ first_of b [] → lines_by b x [] ≡ (x ∷ []) ∷ []) [
      | true ↦ λ g. absurd (omega (arith, g))
      | false ↦ λ g. refl
    ] h
line_at_end x (y ∷ xs) h =
    elim (is_feed x) as (λ b. suc (length (y ∷ xs)) ≤ first_of b (y ∷ xs) → lines_by b x (lines_of (y ∷ xs)) ≡ (x ∷ y ∷ xs) ∷ []) [
      | true ↦ λ g. absurd (omega (arith, g))
      | false ↦ λ g. ap (begin x) (line_at_end y xs (omega (arith, g)))
    ] h
