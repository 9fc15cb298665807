-- Tokens written one after the other.
use Rattle.std.proofs.Common.{◌≡◌, ℕ, List, [], ◌∷◌, ◌++◌, Option, Some, refl, sym, ◌∙◌, append_assoc, append-nil}
use Rattle.sql_lex.specs.declared.token.Kind.{Kind}
use Rattle.sql_print.specs.Said.{Bare}
use Rattle.sql_print.specs.Spelling.{spelling, gap, written, writes}

pub writes_append : (page : List ℕ × Option Kind) (p q : List Bare) → writes page (p ++ q) ≡ writes (writes page p) q
writes_append page [] q = refl
writes_append page (b ∷ p) q = writes_append (page.0 ++ (gap page.1 b.0 ++ spelling b), Some b.0) p q

-- the text grows by what is written
pub writes_text : (page : List ℕ × Option Kind) (p : List Bare) → (writes page p).0 ≡ page.0 ++ written page.1 p
writes_text page [] = sym (append-nil page.0)
writes_text page (b ∷ p) = writes_text (page.0 ++ (gap page.1 b.0 ++ spelling b), Some b.0) p ∙ append_assoc page.0 (gap page.1 b.0 ++ spelling b) (written (Some b.0) p)
