-- The lines of an input, one after another.
use Rattle.std.proofs.Common.{◌≡◌, ℕ, ◌+◌, ◌<◌, ◌≤◌, true, false, not, List, [], ◌∷◌, map, length, refl, sym, ap, ◌∙◌, nat_lt, arith, length-drop}
use Rattle.std.specs.List.{slice_split, filter, before_first, after_first, position_or_len}
use Rattle.std.proofs.lemmas.List.{take_all, drop_all}
use Rattle.std.proofs.lemmas.List.Sums.{fails_before_first}
use Rattle.std.proofs.lemmas.List.Splits.{slice_split_first, slice_split_none, length-slice_split}
use Rattle.input_lines.specs.Lines.{is_feed, is_blank, without_return, without_empty_rest, lines_of, line_of, lines_to_answer}

-- the first line of an input, which is not empty
abbrev pub first : List ℕ → List ℕ
first input = without_return (before_first is_feed input)

kept : (part : List ℕ) (parts : List (List ℕ)) → 0 < length parts → without_empty_rest (part ∷ parts) ≡ part ∷ without_empty_rest parts
kept part [] h = absurd (omega (arith, h))
kept part (next ∷ parts) h = refl

lone : (part : List ℕ) → 0 < length part → without_empty_rest (part ∷ []) ≡ part ∷ []
lone [] h = absurd (omega (arith, h))
lone (b ∷ bs) h = grind arith

with_feed : (input : List ℕ) → position_or_len is_feed input < length input → lines_of input ≡ first input ∷ lines_of (after_first is_feed input)
with_feed input h =
    let parts = slice_split is_feed (after_first is_feed input) in
    ap (λ l. map without_return (without_empty_rest l)) (slice_split_first is_feed input 0 h)
    ∙ ap (map without_return) (kept (before_first is_feed input) parts (omega (arith, length-slice_split is_feed (after_first is_feed input))))

no_feed : (input : List ℕ) → 0 < length input → length input ≤ position_or_len is_feed input → lines_of input ≡ first input ∷ lines_of (after_first is_feed input)
no_feed input some h =
    let one = slice_split_none is_feed input (λ k d l. fails_before_first is_feed input k d (omega arith)) in
    let all : before_first is_feed input ≡ input = take_all (position_or_len is_feed input) input h in
    let none : after_first is_feed input ≡ [] = drop_all (position_or_len is_feed input + 1) input (omega arith) in
    ap (λ l. map without_return (without_empty_rest l)) one
    ∙ ap (map without_return) (lone input some)
    ∙ ap (λ l. without_return l ∷ []) (sym all)
    ∙ ap (λ l. first input ∷ lines_of l) (sym none)

pub lines_of-first : (input : List ℕ) → 0 < length input → lines_of input ≡ first input ∷ lines_of (after_first is_feed input)
lines_of-first input some =
    elim (nat_lt (position_or_len is_feed input) (length input)) as (λ b. (nat_lt (position_or_len is_feed input) (length input) ≡ b) → lines_of input ≡ first input ∷ lines_of (after_first is_feed input)) [
      | true ↦ λ e. with_feed input (grind arith)
      | false ↦ λ e. no_feed input some (grind arith)
    ] refl

pub lines_to_answer-blank : (input : List ℕ) → 0 < length input → is_blank (first input) ≡ true → lines_to_answer input ≡ lines_to_answer (after_first is_feed input)
lines_to_answer-blank input some blank = ap (λ l. map line_of (filter (λ line. not (is_blank line)) l)) (lines_of-first input some) ∙ rw blank refl

pub lines_to_answer-line : (input : List ℕ) → 0 < length input → is_blank (first input) ≡ false → lines_to_answer input ≡ line_of (first input) ∷ lines_to_answer (after_first is_feed input)
lines_to_answer-line input some line = ap (λ l. map line_of (filter (λ line. not (is_blank line)) l)) (lines_of-first input some) ∙ rw line refl

-- what is after the first line is shorter
pub after-shorter : (input : List ℕ) → 0 < length input → length (after_first is_feed input) < length input
after-shorter input some = omega (arith, length-drop (position_or_len is_feed input + 1) input)
