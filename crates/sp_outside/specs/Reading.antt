-- What reading to the end makes of what a source has left, where that is told.
use Rattle.std.specs.Prelude.{ℕ, ◌<◌, List, length, Option, None, Some}
use Rattle.std.specs.Io.KnownBytes.{Consumes, IsAtEnd}

-- all that was left was read, and nothing is left
abbrev pub ReadsWhole : Option (List ℕ) → Option (List ℕ) → List ℕ → Type 0
ReadsWhole old new bytes = Consumes old new bytes × IsAtEnd new

-- a beginning of what was left was read
abbrev pub ReadsBeginning : Option (List ℕ) → Option (List ℕ) → Type 0
ReadsBeginning old new = (part : List ℕ) × Consumes old new part

-- more bytes were left than the limit
abbrev pub IsLonger : Option (List ℕ) → ℕ → Type 0
IsLonger None limit = Unit {0}
IsLonger (Some bytes) limit = limit < length bytes
