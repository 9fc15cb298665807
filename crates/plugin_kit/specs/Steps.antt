-- For private clauses: what serving a part of the input does, however the input goes on.
use Rattle.std.specs.Prelude.{◌≡◌, ℕ, ◌≤◌, List, [], ◌∷◌, ◌++◌, length, IfSome, Option, Some, None}
use Rattle.std.specs.List.{position_or_len}
use Rattle.std.specs.Io.KnownBytes.{Consumes, IsAtEnd}
use Rattle.sp_model.specs.Book.{Book}
use Rattle.sp_world.specs.declared.line.Request.{Request}
use Rattle.byte_lines.specs.Lines.{is_feed, lines_of}
use Rattle.plugin_kit.specs.Lines.{requests_of, first_bad, request_in, kept, and_then}
use Rattle.plugin_kit.specs.Replies.{Answered, AnsweredInPart}
use Rattle.plugin_kit.specs.declared.stop.Stop.{Stop}
use Rattle.plugin_kit.specs.declared.stop.Stop.TheVariants.{BadLine, WriteFault, Memory}
use Rattle.plugin_kit.specs.declared.served.Served.{Served}
use Rattle.plugin_kit.specs.declared.served.Served.TheVariants as served

-- no byte is a line feed
abbrev pub HasNoFeed : List ℕ → Type 0
HasNoFeed bytes = length bytes ≤ position_or_len is_feed bytes

-- how serving ends at a stop
abbrev pub served_of : Stop → Served
served_of (BadLine line) = served.BadLine line
served_of WriteFault = served.WriteFault
served_of Memory = served.Memory

-- the line of a stop at a bad line
abbrev pub bad_line : Stop → Option (List ℕ)
bad_line (BadLine line) = Some line
bad_line _ = None

-- a line is a request, which was answered
pub record IsLineAnswered (book : Option Book) (held now : Option (List ℕ)) (line : List ℕ) : Type 0 where
  pub request : Request
  pub is : request_in line ≡ Some request
  pub answered : Answered book held now (request ∷ [])

-- a line is no request, and nothing was written
pub record IsLineBad (book : Option Book) (held now : Option (List ℕ)) (line keeps : List ℕ) : Type 0 where
  pub none : request_in line ≡ None
  pub as_kept : keeps ≡ kept line
  pub unwritten : Answered book held now []

-- serving stopped at a line: whatever requests follow, a beginning of the answers was written
pub record StopsAtLine (book : Option Book) (held now : Option (List ℕ)) (line : List ℕ) (stop : Stop) : Type 0 where
  pub part : (later : List Request) → AnsweredInPart book held now (and_then (request_in line) later)
  pub bad : IfSome (bad_line stop) (λ keeps. IsLineBad book held now line keeps)

-- of the bytes that were taken those that wait are left, and the lines before them were requests that were answered
pub record HasPassed (book : Option Book) (held now : Option (List ℕ)) (taken waiting : List ℕ) : Type 0 where
  pub requests : List Request
  pub before : (more : List ℕ) → requests_of (lines_of (taken ++ more)) ≡ requests ++ requests_of (lines_of (waiting ++ more))
  pub good : (more : List ℕ) → first_bad (lines_of (taken ++ more)) ≡ first_bad (lines_of (waiting ++ more))
  pub answered : Answered book held now requests

-- the first bad line is this one, and all before it were answered
pub record IsBadAfter (book : Option Book) (held now : Option (List ℕ)) (bytes keeps more : List ℕ) : Type 0 where
  pub first : first_bad (lines_of (bytes ++ more)) ≡ Some keeps
  pub answered : Answered book held now (requests_of (lines_of (bytes ++ more)))

-- serving stopped within these bytes
pub record StopsWithin (book : Option Book) (held now : Option (List ℕ)) (bytes : List ℕ) (stop : Stop) : Type 0 where
  pub part : (more : List ℕ) → AnsweredInPart book held now (requests_of (lines_of (bytes ++ more)))
  pub bad : IfSome (bad_line stop) (λ keeps. (more : List ℕ) → IsBadAfter book held now bytes keeps more)

-- what was read waits too; nothing is read at the end alone
pub record ReadsMore (left rest : Option (List ℕ)) (old new : List ℕ) (room count : ℕ) : Type 0 where
  pub read : List ℕ
  pub consumed : Consumes left rest read
  pub added : new ≡ old ++ read
  pub counted : length read ≡ count
  pub within : count ≤ room
  pub end : count ≡ 0 → IsAtEnd rest

-- so many bytes were taken so far, and the lines before those that wait were answered
pub record IsServing (book : Option Book) (left rest held now : Option (List ℕ)) (waiting : List ℕ) (count : ℕ) : Type 0 where
  pub taken : List ℕ
  pub consumed : Consumes left rest taken
  pub counted : length taken ≡ count
  pub passed : HasPassed book held now taken waiting

-- what was read is lost
pub record ReadsNoMore (left rest : Option (List ℕ)) (room : ℕ) : Type 0 where
  pub read : List ℕ
  pub consumed : Consumes left rest read
  pub within : length read ≤ room
