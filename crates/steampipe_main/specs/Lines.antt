-- What asking for a line makes of the bytes that wait, and of those that the reader has left, where these are known.
use Rattle.std.specs.Prelude.{ℕ, List, Option}
use Rattle.byte_lines.specs.Lines.{ReadsMore, IsFirstLine}

-- more was read, and of all that waited then the first line is given, and what is after it waits
pub record GivesLine (old new : List ℕ) (left rest : Option (List ℕ)) (line : List ℕ) : Type 0 where
  pub bytes : List ℕ
  pub more : ReadsMore old bytes left rest
  pub first : IsFirstLine bytes line new
