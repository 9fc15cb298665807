-- What the methods of texts give of a count, in the words of its definition.
use Rattle.std.proofs.Common.{◌≡◌, ◌≢◌, ℕ, zero, suc, ◌<◌, ◌≤◌, ◌^◌, Bool, true, false, not, cond, ◌&&◌, MatchBool, nat_le, List, [], ◌∷◌, length, get_or, Option, None, Some, Ok, Err, refl, sym, ◌∙◌, arith}
use Rattle.std.specs.Str.{all_ascii_digits}
use Rattle.std.specs.Str.Parse.{digits_value, ParsesUnsigned}
use Rattle.std.specs.Str.Pattern.{FindsCharPrefix, HasPrefixMatch}
use Rattle.std.proofs.lemmas.Str.Parse.{IsNumeralModel, numerals_by_value, tells_all_ascii_digits, parse_plain}
use Rattle.std.proofs.lemmas.Str.Pattern.{starts_char}
use Rattle.std.proofs.lemmas.Bool.{false≢true}
use Rattle.spelled_counts.specs.Counts.{begins_with_zero, within, count_of}

pub not_first : (ch : ℕ) (text : List ℕ) (r : Bool) → MatchBool r (HasPrefixMatch (FindsCharPrefix ch) text) (FindsCharPrefix ch text None) → ch < 128 → 0 < ch → r ≡ false → get_or text 0 0 ≢ ch
not_first ch text r h ascii some other e = false≢true (sym other ∙ (starts_char ch text r h ascii some).1 e)

own : IsNumeralModel (λ ds. all_ascii_digits ds ≡ true) (digits_value 10)
own = numerals_by_value _ tells_all_ascii_digits

no_zero : (ds : List ℕ) → get_or ds 0 0 ≢ 48 → begins_with_zero ds ≡ false
no_zero [] h = refl
no_zero (d ∷ ds) h = grind arith

-- by what the tests say
abbrev chosen : ℕ → Bool → Bool → ℕ → Option ℕ
chosen most digits zero_first n = cond (digits && not zero_first) (within most n) None

chosen_yes : (most : ℕ) (a z : Bool) (v n : ℕ) → a ≡ true → z ≡ false → n ≡ v → within most n ≡ chosen most a z v
chosen_yes most a z v n d f e = rw (d, f, e) refl

pub spelled : (E : Type 0) (most : ℕ) (ds : List ℕ) (n : ℕ) → get_or ds 0 0 ≢ 48 → get_or ds 0 0 ≢ 43 → ParsesUnsigned {E = E} 32 10 ds (Ok n) → within most n ≡ count_of most ds
spelled E most ds n zero_first plus h =
    let read = parse_plain own {E = E} 32 ds (Ok n) h plus in
    chosen_yes most (all_ascii_digits ds) (begins_with_zero ds) (digits_value 10 ds) n read.0.0 (no_zero ds zero_first) read.1

none_within : (most v : ℕ) → (1 ≤ v → most < v) → None ≡ within most v
none_within most zero h = refl
none_within most (suc v) h =
    elim (nat_le (suc v) most) as (λ b. (nat_le (suc v) most ≡ b) → None ≡ cond (nat_le 1 (suc v) && b) (Some (suc v)) None) [
      | true ↦ λ e. let past : most < suc v = h (omega arith) in absurd (grind arith)
      | false ↦ λ e. grind arith
    ] refl

not_below : (most v l : ℕ) → most < 2 ^ 32 → ¬ ((true ≡ true) × (0 < l) × (v < 2 ^ 32)) → (1 ≤ v → 0 < l) → 1 ≤ v → most < v
not_below most v l small h some one =
    elim (nat_le v most) as (λ b. (nat_le v most ≡ b) → most < v) [
      | true ↦ λ e. absurd (h (refl, some one, grind arith))
      | false ↦ λ e. grind arith
    ] refl

unread : (most : ℕ) (a z : Bool) (v l : ℕ) → most < 2 ^ 32 → ¬ ((a ≡ true) × (0 < l) × (v < 2 ^ 32)) → (1 ≤ v → 0 < l) → None ≡ chosen most a z v
unread most false z v l small h some = refl
unread most true true v l small h some = refl
unread most true false v l small h some = none_within most v (not_below most v l small h some)

pub unspelled : (E : Type 0) (most : ℕ) (ds : List ℕ) (e : E) → most < 2 ^ 32 → get_or ds 0 0 ≢ 43 → ParsesUnsigned {E = E} 32 10 ds (Err e) → None ≡ count_of most ds
unspelled E most [] e small plus h = refl
unspelled E most (d ∷ ds) e small plus h =
    let read = parse_plain own {E = E} 32 (d ∷ ds) (Err e) h plus in
    unread most (all_ascii_digits (d ∷ ds)) (begins_with_zero (d ∷ ds)) (digits_value 10 (d ∷ ds)) (length (d ∷ ds)) small read (λ _. omega arith)
