-- The lines of an input, and what each of them is.
use Rattle.std.specs.Prelude.{ℕ, ◌-◌, ◌<◌, ◌≤◌, ◌==◌, nat_eq, Bool, ◌&&◌, ◌||◌, not, List, [], ◌∷◌, length, map, take, drop, codes, Option, Some, None, if◌then◌else◌}
use Rattle.std.specs.List.{slice_split, filter, list_all, starts_with, ends_with, before_first, after_first, prefix_len}
use Rattle.std.specs.Str.{is_utf8}
use Rattle.spelled_counts.specs.Counts.{count_of}
use Rattle.input_lines.specs.declared.line.Line.{Line}
use Rattle.input_lines.specs.declared.line.Line.TheVariants.{Statement, ClearCache, BadForm}
use Rattle.input_lines.specs.declared.line.LinesFault.{LinesFault}
use Rattle.input_lines.specs.declared.line.LinesFault.TheVariants as fault

-- ---- the lines

abbrev pub is_feed : ℕ → Bool
is_feed byte = byte == 10

-- without one carriage return at the end
abbrev pub without_return : List ℕ → List ℕ
without_return line = if ends_with nat_eq line (13 ∷ []) then take (length line - 1) line else line

-- an empty rest after the last line feed is no line
abbrev pub without_empty_rest : List (List ℕ) → List (List ℕ)
without_empty_rest [] = []
without_empty_rest (part ∷ []) = if length part == 0 then [] else part ∷ []
without_empty_rest (part ∷ next ∷ parts) = part ∷ without_empty_rest (next ∷ parts)

-- what stands between line feeds, and before the end
abbrev pub lines_of : List ℕ → List (List ℕ)
lines_of input = map without_return (without_empty_rest (slice_split is_feed input))

-- ---- what a line is

abbrev pub is_space : ℕ → Bool
is_space byte = byte == 32

-- spaces and tabs alone
abbrev pub is_blank : List ℕ → Bool
is_blank text = list_all (λ byte. is_space byte || byte == 9) text

abbrev pub begins_with : List ℕ → List ℕ → Bool
begins_with start text = starts_with nat_eq text start

abbrev pub last_session : ℕ
last_session = 64

-- the session that these digits spell, counted from 1
abbrev pub session_of : List ℕ → Option ℕ
session_of digits = count_of last_session digits

abbrev pub is_clear_cache : List ℕ → Bool
is_clear_cache text = begins_with (codes ".cache clear") text && is_blank (drop 12 text)

-- what stands in the place of a session's statement
abbrev pub session_line : ℕ → List ℕ → Line
session_line session text = if begins_with (codes ".") text then (if is_clear_cache text then ClearCache session else BadForm) else Statement session text

abbrev pub without_spaces : List ℕ → List ℕ
without_spaces text = drop (prefix_len is_space text) text

abbrev pub after_mark : Option ℕ → List ℕ → Line
after_mark None text = BadForm
after_mark (Some session) text = if is_blank text then BadForm else session_line session text

-- after the `@`: a session, one or more spaces, and what stands in the statement's place
abbrev pub marked_line : List ℕ → Line
marked_line text = after_mark (session_of (before_first is_space text)) (without_spaces (after_first is_space text))

abbrev pub line_of : List ℕ → Line
line_of line =
    if not (is_utf8 line) then BadForm
    else (if begins_with (codes "@") line then marked_line (drop 1 line)
    else session_line 1 line)

abbrev pub IsSession : ℕ → Type 0
IsSession session = (1 ≤ session) × (session ≤ last_session)

abbrev pub HasSession : Line → Type 0
HasSession (Statement session text) = IsSession session
HasSession (ClearCache session) = IsSession session
HasSession BadForm = Unit {0}

-- ---- the input

-- what the lines are, without those of spaces and tabs alone
abbrev pub lines_to_answer : List ℕ → List Line
lines_to_answer input = map line_of (filter (λ line. not (is_blank line)) (lines_of input))

abbrev pub line_limit : ℕ
line_limit = 10000

abbrev pub HasTooManyLines : List ℕ → Type 0
HasTooManyLines input = line_limit < length (lines_of input)

abbrev pub IsFaultOf : List ℕ → LinesFault → Type 0
IsFaultOf input fault.TooMany = HasTooManyLines input
IsFaultOf input fault.Memory = Unit {0}
