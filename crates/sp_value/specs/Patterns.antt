-- Patterns with stars.
use Rattle.std.specs.Prelude.{ℕ, Bool, true, false, not, ◌||◌, ◌&&◌, ◌==◌, List, [], ◌∷◌, if◌then◌else◌}

abbrev pub is_empty : List ℕ → Bool
is_empty [] = true
is_empty (c ∷ cs) = false

-- some end of the text passes the test, be it the whole text or none of it
abbrev pub some_end : (List ℕ → Bool) → List ℕ → Bool
some_end test [] = test []
some_end test (c ∷ cs) = test (c ∷ cs) || some_end test cs

-- the text begins with this byte, and the rest passes the test
abbrev pub first_is : ℕ → (List ℕ → Bool) → List ℕ → Bool
first_is p test [] = false
first_is p test (c ∷ cs) = p == c && test cs

-- a pattern fits a text: a star, 42, stands for any bytes, also none, and every other byte for itself
abbrev pub fits : List ℕ → List ℕ → Bool
fits [] text = is_empty text
fits (p ∷ ps) text = if p == 42 then some_end (fits ps) text else first_is p (fits ps) text

-- some pattern of the list fits the text
abbrev pub fits_some : List (List ℕ) → List ℕ → Bool
fits_some [] text = false
fits_some (p ∷ ps) text = fits p text || fits_some ps text

-- for private clauses: no byte is a star
abbrev pub is_literal : List ℕ → Bool
is_literal [] = true
is_literal (p ∷ ps) = not (p == 42) && is_literal ps
