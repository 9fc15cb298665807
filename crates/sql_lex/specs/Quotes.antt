-- What stands between quotes.
use Rattle.std.specs.Prelude.{◌≡◌, length, ℕ, ◌+◌, Bool, true, false, if◌then◌else◌, ◌==◌, List, [], ◌∷◌, ◌++◌, Option, Some, None}

abbrev pub more : ℕ → ℕ → Option (List ℕ × ℕ) → Option (List ℕ × ℕ)
more b n None = None
more b n (Some found) = Some (b ∷ found.0, n + found.1)

abbrev pub more_bytes : ℕ → Option (List ℕ × ℕ) → Option (List ℕ × ℕ)
more_bytes n None = None
more_bytes n (Some found) = Some (found.0, n + found.1)

-- What stands before the closing quote, and how many bytes go with it, the quote too. A quote that is followed by a quote closes
-- nothing: both are one. True says that the byte before is a quote whose second may come.
abbrev pub closed : Bool → ℕ → List ℕ → Option (List ℕ × ℕ)
closed false quote [] = None
closed true quote [] = Some ([], 0)
closed false quote (b ∷ z) = if b == quote then more_bytes 1 (closed true quote z) else more b 1 (closed false quote z)
closed true quote (b ∷ z) = if b == quote then more quote 1 (closed false quote z) else Some ([], 0)

-- each quote twice
abbrev pub doubled : ℕ → List ℕ → List ℕ
doubled quote [] = []
doubled quote (b ∷ bs) = if b == quote then quote ∷ quote ∷ doubled quote bs else b ∷ doubled quote bs

-- between quotes
abbrev pub quoted : ℕ → List ℕ → List ℕ
quoted quote bs = quote ∷ (doubled quote bs ++ quote ∷ [])

-- the text does not go on with a quote
abbrev pub NoQuote : ℕ → List ℕ → Type 0
NoQuote quote [] = Unit {0}
NoQuote quote (c ∷ rest) = (c == quote) ≡ false

-- A text begins with the content, each of its quotes twice, and a closing quote: so many bytes, after which comes no quote.
pub record ClosesAt (quote : ℕ) (z content : List ℕ) (len : ℕ) : Type 0 where
  pub rest : List ℕ
  pub parts : z ≡ (doubled quote content ++ quote ∷ []) ++ rest
  pub size : len ≡ length (doubled quote content ++ quote ∷ [])
  pub past : NoQuote quote rest

-- the quote closes so, or nowhere
abbrev pub Closes : ℕ → List ℕ → Option (List ℕ × ℕ) → Type 0
Closes quote z None = (content : List ℕ) (len : ℕ) → ClosesAt quote z content len → ⊥
Closes quote z (Some found) = ClosesAt quote z found.0 found.1
