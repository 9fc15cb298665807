-- What contracts see of the outside in memory.
use Rattle.std.specs.Prelude.{ℕ, List, [], ◌∷◌, Option, None, Some, if◌then◌else◌}
use Rattle.std.specs.Str.{bytes_eq}

-- a source: what is left, the numbers of the reads that fail, the number of the next read, the count of faults
pub record SourceState : Type 0 where
  pub left : List ℕ
  pub fails : List ℕ
  pub reads : ℕ
  pub faults : ℕ

-- a sink: what it holds, the greatest piece, and the same of its writes
pub record SinkState : Type 0 where
  pub held : List ℕ
  pub piece : ℕ
  pub fails : List ℕ
  pub writes : ℕ
  pub faults : ℕ

-- a shelf: its files, and the same of its reads
pub record ShelfState : Type 0 where
  pub files : List (List ℕ × List ℕ)
  pub fails : List ℕ
  pub reads : ℕ
  pub faults : ℕ

-- the bytes of the first file of a name
abbrev pub file_of : List (List ℕ × List ℕ) → List ℕ → Option (List ℕ)
file_of [] name = None
file_of (file ∷ files) name = if bytes_eq file.0 name then Some file.1 else file_of files name
