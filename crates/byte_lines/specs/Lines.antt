-- Line feeds, and the lines of bytes.
use Rattle.std.specs.Prelude.{◌≡◌, ℕ, ◌==◌, Bool, List, [], ◌∷◌, ◌++◌, Option, IsSome, position, if◌then◌else◌}
use Rattle.std.specs.List.{before_first, after_first}
use Rattle.std.specs.Io.KnownBytes.{Consumes}

-- a byte is a line feed
abbrev pub is_feed : ℕ → Bool
is_feed byte = byte == 10

-- a byte before lines begins the first of them
abbrev pub begin : ℕ → List (List ℕ) → List (List ℕ)
begin byte [] = (byte ∷ []) ∷ []
begin byte (line ∷ lines) = (byte ∷ line) ∷ lines

-- the lines of bytes: each goes to its line feed, and the last one to the end of the bytes, if anything follows the last line feed
abbrev pub lines_of : List ℕ → List (List ℕ)
lines_of [] = []
lines_of (byte ∷ bytes) = if is_feed byte then [] ∷ lines_of bytes else begin byte (lines_of bytes)

-- the line is what stands before the first line feed, of which there is one, and the rest is what stands after it
pub record IsFirstLine (bytes line rest : List ℕ) : Type 0 where
  pub feed : IsSome (position is_feed bytes)
  pub before : line ≡ before_first is_feed bytes
  pub after : rest ≡ after_first is_feed bytes

-- what was read of what a reader had left stands behind the bytes that were there
pub record ReadsMore (old new : List ℕ) (left rest : Option (List ℕ)) : Type 0 where
  pub read : List ℕ
  pub consumed : Consumes left rest read
  pub added : new ≡ old ++ read
