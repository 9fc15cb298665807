-- Open calls, and what a line answers to them.
use Rattle.std.specs.Prelude.{◌≡◌, ℕ, ◌-◌, ◌^◌, nat_lt, List, map, if◌then◌else◌, Option, Some, None, option_map, Result, Ok, Err}
use Rattle.call_jobs.specs.Jobs.{asked_by}
use Rattle.call_jobs.specs.declared.job.Job.{Job}
use Rattle.sp_model.specs.Book.{Book}
use Rattle.sp_world.specs.Told.{Answer}
use Rattle.sp_world.specs.Fits.{told_by}
use Rattle.sp_world.specs.ReplyLines.{ReplyLine, line_of}
use Rattle.sp_world.specs.declared.line.LineFault.{LineFault}
use Rattle.sp_outside.specs.Log.{find_open, line_taken, next_line}
use Rattle.sp_outside.specs.declared.log.OpenCall.{OpenCall}
use Rattle.child_link.specs.Arrivals.{number_of}
use Rattle.child_link.specs.declared.flight.Flight.{Flight}

-- the open call that a flight is
abbrev pub open_of : Flight → OpenCall
open_of f = record { id = f.id; asked = asked_by f.job; taken = f.taken }

abbrev pub calls_of : List Flight → List OpenCall
calls_of = map open_of

-- the jobs of open calls, in order of their numbers
abbrev pub jobs_of : List Flight → List Job
jobs_of = map (λ f. f.job)

abbrev pub told_to : Option OpenCall → ReplyLine → Option Answer
told_to None l = None
told_to (Some call) l = told_by call.asked call.taken l

-- what a line answers to the first open call of the number that it names
abbrev pub answer_in : List OpenCall → Result ReplyLine LineFault → Option Answer
answer_in calls (Ok l) = told_to (find_open (number_of l) calls) l
answer_in calls (Err fault) = None

-- the calls after a line that was given and isn't looked at yet
abbrev pub ahead : Option (List ℕ) → List OpenCall → List OpenCall
ahead None calls = calls
ahead (Some bytes) calls = line_taken (line_of bytes) calls

-- the book's line for an open call
abbrev pub book_next : Book → OpenCall → Result ReplyLine LineFault
book_next book call = Ok (next_line book call)

abbrev pub next_in : Book → List OpenCall → Result ReplyLine LineFault → Option (Result ReplyLine LineFault)
next_in book calls (Ok l) = option_map (book_next book) (find_open (number_of l) calls)
next_in book calls (Err fault) = None

-- a line is the book's next one for the first open call of its number
abbrev pub IsNext : Book → List OpenCall → List ℕ → Type 0
IsNext book calls bytes = next_in book calls (line_of bytes) ≡ Some (line_of bytes)

-- how many lines were looked at: those given, without one that waits; the count stands still at the end of its type
abbrev pub looked_at : ℕ → Option (List ℕ) → ℕ
looked_at given None = given
looked_at given (Some line) = if nat_lt given (2 ^ 64 - 1) then given - 1 else given
