-- What the methods of texts give of a mark, in the words of the definitions.
use Rattle.std.proofs.Common.{◌≡◌, ◌≢◌, ℕ, true, false, ◌&&◌, nat_eq, List, [], ◌∷◌, ◌++◌, get_or, drop, None, Some, codes, refl, sym, ap, ◌∙◌, arith}
use Rattle.std.specs.Str.{IsUtf8, is_utf8}
use Rattle.std.specs.Str.Pattern.{FindsCharPrefix, CutsPrefixes, IsFullyTrimmed, IsTrimStartMatches}
use Rattle.std.proofs.lemmas.Str.{IsUtf8-from_is_utf8, is_utf8-from_IsUtf8, encode_ascii}
use Rattle.std.proofs.lemmas.Str.Pattern.{drop_at_char}
use Rattle.std.proofs.lemmas.Grind.{common_steps}
use Rattle.input_lines.specs.Lines.{begins_with, without_spaces, session_line, marked_line, line_of}
use Rattle.input_lines.specs.declared.line.Line.TheVariants.{BadForm}

-- ---- spaces

without_spaces-space : (r : List ℕ) → without_spaces (32 ∷ r) ≡ without_spaces r
without_spaces-space r = grind (arith, common_steps)

without_spaces-drop : (m r : List ℕ) (n : ℕ) → FindsCharPrefix 32 m (Some n) → r ≡ drop n m → without_spaces m ≡ without_spaces r
without_spaces-drop m r n found rest =
    let at : m ≡ 32 ∷ drop n m = drop_at_char 32 m 0 n found (omega arith) in
    ap without_spaces at ∙ without_spaces-space (drop n m) ∙ ap without_spaces (sym rest)

without_spaces-cuts : (s : List ℕ) (ns : List ℕ) (r : List ℕ) → CutsPrefixes (FindsCharPrefix 32) s ns r → without_spaces s ≡ without_spaces r
without_spaces-cuts s [] r e = ap without_spaces (sym e)
without_spaces-cuts s (n ∷ ns) r cuts = without_spaces-cuts s ns cuts.0 cuts.1 ∙ without_spaces-drop cuts.0 r n cuts.2 cuts.3

no_space_first : (r : List ℕ) → get_or r 0 0 ≢ 32 → without_spaces r ≡ r
no_space_first [] h = refl
no_space_first (b ∷ r) h = grind (arith, common_steps)

is_first : (r : List ℕ) → get_or r 0 0 ≡ 32 → r ≡ 32 ∷ drop 1 r
is_first [] h = absurd (omega (arith, h))
is_first (b ∷ r) h = ap (λ c. c ∷ r) h

trimmed_first : (r : List ℕ) → IsFullyTrimmed (FindsCharPrefix 32) r → get_or r 0 0 ≢ 32
trimmed_first r (None, found, none) h = found (drop 1 r) (is_first r h ∙ ap (λ l. l ++ drop 1 r) (sym (encode_ascii 32 (omega arith))))
trimmed_first r (Some n, found, none) h = absurd (omega (arith, found.ends, none))

pub trims : (s r : List ℕ) → IsTrimStartMatches (FindsCharPrefix 32) s r → r ≡ without_spaces s
trims s r h = sym (without_spaces-cuts s h.0.0 r h.0.1 ∙ no_space_first r (trimmed_first r h.1))

-- ---- a line

pub not_text : (line : List ℕ) → ¬ (IsUtf8 line) → BadForm ≡ line_of line
not_text line h =
    let P : is_utf8 line ≡ false = elim (is_utf8 line) as (λ b. (is_utf8 line ≡ b) → b ≡ false) [ true ↦ λ e. absurd (h (IsUtf8-from_is_utf8 line e)) | false ↦ λ e. refl ] refl in
    rw P refl

pub line_marked : (line rest : List ℕ) → IsUtf8 line → line ≡ 64 ∷ rest → marked_line rest ≡ line_of line
line_marked line rest text e =
    let P : is_utf8 line ≡ true = is_utf8-from_IsUtf8 line text in
    rw P (rw e refl)

no_mark : (line : List ℕ) → ((rest : List ℕ) → line ≢ 64 ∷ rest) → begins_with (codes "@") line ≡ false
no_mark [] h = refl
no_mark (b ∷ bs) h =
    elim (nat_eq 64 b) as (λ t. (nat_eq 64 b ≡ t) → (t && true) ≡ false) [ true ↦ λ e. absurd (h bs (ap (λ c. c ∷ bs) (grind arith))) | false ↦ λ e. refl ] refl

pub line_plain : (line : List ℕ) → IsUtf8 line → ((rest : List ℕ) → line ≢ 64 ∷ rest) → session_line 1 line ≡ line_of line
line_plain line text h =
    let P : is_utf8 line ≡ true = is_utf8-from_IsUtf8 line text in
    rw P (rw (no_mark line h) refl)
