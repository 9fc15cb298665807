-- What is so of every block that an input gives.
use Rattle.std.proofs.Common.{◌≡◌, ℕ, ◌≤◌, Bool, true, false, not, cond, List, [], ◌∷◌, length, Option, None, Some, codes, refl, arith, drop}
use Rattle.std.specs.Str.{is_utf8}
use Rattle.std.specs.List.{All, filter, before_first, after_first}
use Rattle.std.proofs.lemmas.List.{length-map}
use Rattle.std.proofs.lemmas.List.Elements.{All-map}
use Rattle.spelled_counts.proofs.Ranges.{count_of-range}
use Rattle.input_lines.specs.declared.line.Line.{Line}
use Rattle.input_lines.specs.Lines.{is_space, is_blank, begins_with, last_session, session_of, is_clear_cache, session_line, after_mark, without_spaces, marked_line, line_of, lines_of, lines_to_answer, IsSession, HasSession}

-- ---- sessions

choice-session : (b : Bool) (x y : Line) → HasSession x → HasSession y → HasSession (cond b x y)
choice-session true x y one other = one
choice-session false x y one other = other

session_line-session : (session : ℕ) (text : List ℕ) → IsSession session → HasSession (session_line session text)
session_line-session session text h = choice-session (begins_with (codes ".") text) _ _ (choice-session (is_clear_cache text) _ _ h tt) h

after_mark-session : (session : Option ℕ) (text : List ℕ) → ((n : ℕ) → session ≡ Some n → IsSession n) → HasSession (after_mark session text)
after_mark-session None text h = tt
after_mark-session (Some n) text h = choice-session (is_blank text) _ _ tt (session_line-session n text (h n refl))

marked_line-session : (text : List ℕ) → HasSession (marked_line text)
marked_line-session text =
    let digits = before_first is_space text in
    after_mark-session (session_of digits) (without_spaces (after_first is_space text)) (count_of-range last_session digits)

line_of-session : (line : List ℕ) → HasSession (line_of line)
line_of-session line =
    let first : IsSession 1 = omega arith in
    choice-session (not (is_utf8 line)) _ _ tt (choice-session (begins_with (codes "@") line) _ _ (marked_line-session (drop 1 line)) (session_line-session 1 line first))

pub lines_to_answer-sessions : (input : List ℕ) → All HasSession (lines_to_answer input)
lines_to_answer-sessions input = All-map HasSession line_of _ (λ k d h. line_of-session _)

-- ---- their number

length-filter-le : (p : List ℕ → Bool) (lines : List (List ℕ)) → length (filter p lines) ≤ length lines
length-filter-le p [] = omega arith
length-filter-le p (line ∷ lines) =
    let later = length-filter-le p lines in
    elim (p line) as (λ b. length (cond b (line ∷ filter p lines) (filter p lines)) ≤ length (line ∷ lines)) [ true ↦ omega arith | false ↦ omega arith ]

pub length-lines_to_answer : (input : List ℕ) → length (lines_to_answer input) ≤ length (lines_of input)
length-lines_to_answer input =
    let full = λ (line : List ℕ). not (is_blank line) in
    omega (arith, length-map (filter full (lines_of input)) line_of, length-filter-le full (lines_of input))
