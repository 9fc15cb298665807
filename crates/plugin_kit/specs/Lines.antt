-- Which lines of an input are requests.
use Rattle.std.specs.Prelude.{ℕ, List, [], ◌∷◌, length, take, nat_le, if◌then◌else◌, Option, Some, None, Result, Ok, Err}
use Rattle.sp_world.specs.RequestLines.{request_of}
use Rattle.sp_world.specs.declared.line.LineFault.{LineFault}
use Rattle.sp_world.specs.declared.line.Request.{Request}

abbrev pub request_read : Result Request LineFault → Option Request
request_read (Ok request) = Some request
request_read (Err fault) = None

-- the request that a line is, if it has at most 68,157,440 bytes and is one
unfoldable pub request_in : List ℕ → Option Request
request_in line = if nat_le (length line) 68157440 then request_read (request_of line) else None

-- of a line that is too long its first 68,157,441 bytes, else the line
unfoldable pub kept : List ℕ → List ℕ
kept line = take 68157441 line

abbrev pub and_then : Option Request → List Request → List Request
and_then (Some request) requests = request ∷ requests
and_then None requests = []

-- the requests before the first line that is none
abbrev pub requests_of : List (List ℕ) → List Request
requests_of [] = []
requests_of (line ∷ lines) = and_then (request_in line) (requests_of lines)

abbrev pub bad_or : Option Request → List ℕ → Option (List ℕ) → Option (List ℕ)
bad_or (Some request) line later = later
bad_or None line later = Some line

-- what is kept of the first line that is no request
abbrev pub first_bad : List (List ℕ) → Option (List ℕ)
first_bad [] = None
first_bad (line ∷ lines) = bad_or (request_in line) (kept line) (first_bad lines)
