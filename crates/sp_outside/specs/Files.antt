-- What is told of a file: nothing, that there is none of its name, or its bytes.
use Rattle.std.specs.Prelude.{◌≡◌, ℕ, ◌<◌, List, length, Option, None, Some}
use Rattle.sp_outside.specs.Causes.{Rose}

pub data FileTold : Type 0 where
  Untold : FileTold
  Absent : FileTold
  Bytes : (bytes : List ℕ) → FileTold

-- all is told: the file has these bytes, or there is none
abbrev pub told_whole : Option (List ℕ) → FileTold
told_whole None = Absent
told_whole (Some bytes) = Bytes bytes

-- the bytes are the file's, where it is told
abbrev pub IsFile : FileTold → List ℕ → Type 0
IsFile Untold bytes = Unit {0}
IsFile Absent bytes = ⊥
IsFile (Bytes file) bytes = bytes ≡ file

-- the file is told absent; or it isn't told, and the count of faults rose
abbrev pub IsAbsent : FileTold → ℕ → ℕ → Type 0
IsAbsent Untold before now = Rose before now
IsAbsent Absent before now = Unit {0}
IsAbsent (Bytes file) before now = ⊥

-- the file has more than 1,048,576 bytes, where it is told
abbrev pub IsTooLong : FileTold → Type 0
IsTooLong Untold = Unit {0}
IsTooLong Absent = ⊥
IsTooLong (Bytes file) = 1048576 < length file
