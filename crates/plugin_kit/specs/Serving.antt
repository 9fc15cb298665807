-- What serving an input does.
use Rattle.std.specs.Prelude.{◌≡◌, ℕ, ◌≤◌, ◌<◌, ◌^◌, List, [], ◌++◌, length, Option, Some, None}
use Rattle.std.specs.Io.KnownBytes.{Consumes, IsAtEnd}
use Rattle.sp_model.specs.Book.{Book}
use Rattle.byte_lines.specs.Lines.{lines_of}
use Rattle.plugin_kit.specs.Lines.{requests_of, first_bad}
use Rattle.plugin_kit.specs.Replies.{Answered, AnsweredInPart}
use Rattle.plugin_kit.specs.declared.served.Served.{Served}
use Rattle.plugin_kit.specs.declared.served.Served.TheVariants.{End, BadLine, Limit, Memory}

abbrev pub known : Option (List ℕ) → List ℕ
known None = []
known (Some bytes) = bytes

-- the whole input: what was taken of the source, and then what it has left, where that is told
abbrev pub input_of : List ℕ → Option (List ℕ) → List ℕ
input_of taken rest = taken ++ known rest

-- the end comes at the end of the source, and the limit at exactly 2^62 bytes
abbrev pub IsTaken : Served → Option (List ℕ) → ℕ → Type 0
IsTaken End rest count = IsAtEnd rest × (count < 2 ^ 62)
IsTaken Limit rest count = count ≡ 2 ^ 62
IsTaken Memory rest count = count ≤ 2 ^ 62
IsTaken _ rest count = count < 2 ^ 62

-- at the end every line is a request and was answered; a bad line is the first that is no request, and those before it were answered; in every
-- other case a beginning of the answers to the requests was written
abbrev pub IsAnswered : Option Book → Option (List ℕ) → Option (List ℕ) → List ℕ → Served → Type 0
IsAnswered book held now input End = (first_bad (lines_of input) ≡ None) × Answered book held now (requests_of (lines_of input))
IsAnswered book held now input (BadLine line) = (first_bad (lines_of input) ≡ Some line) × Answered book held now (requests_of (lines_of input))
IsAnswered book held now input _ = AnsweredInPart book held now (requests_of (lines_of input))

-- an input was served by the book of its routes: from what the source had left and has left now, and what the sink held and holds now
pub record IsServed (book : Option Book) (left rest held now : Option (List ℕ)) (served : Served) : Type 0 where
  pub taken : List ℕ
  pub consumed : Consumes left rest taken
  pub count : IsTaken served rest (length taken)
  pub answered : IsAnswered book held now (input_of taken rest) served
