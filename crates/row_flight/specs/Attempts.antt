-- The present attempt of a function's call, and what a piece of its reply makes of it.
use Rattle.std.specs.Prelude.{◌<◌, ◌≤◌, ◌^◌, ◌-◌, ℕ, zero, suc, ◌+◌, ◌==◌, Bool, true, false, ◌||◌, min, List, Option, Some, None, IsSome}
use Rattle.sp_value.specs.declared.cell.Cell.{Cell}
use Rattle.sp_value.specs.declared.cell.Cell.TheVariants as cells
use Rattle.sp_model.specs.Delays.{delay_by}
use Rattle.sp_model.specs.Fields.{or_null}
use Rattle.sp_model.specs.Settling.{or_else, Verdict, Accept, Again, Refuse, Open, judged}
use Rattle.sp_model.specs.declared.call.Piece.{Piece}
use Rattle.sp_model.specs.declared.call.Piece.TheVariants as piece
use Rattle.sp_model.specs.declared.declaration.Rule.{Rule}
use Rattle.sp_model.specs.declared.outcome.Outcome.{Outcome}
use Rattle.sp_model.specs.declared.outcome.Outcome.TheVariants.{Gave, Fails}
use Rattle.sp_model.specs.declared.scan.Cause.TheVariants.{Error, TooMany}
use Rattle.row_stream.specs.Streams.{place_of}
use Rattle.row_flight.specs.declared.attempt.Attempt.{Attempt}

-- the first attempt, of which nothing is listed and nothing came
abbrev pub fresh : Attempt
fresh = record { tries = 0; listed = false; due = 0; next = 0; item = None }

-- a piece is next where its place follows the last one that was taken; a piece of place 0 always is
abbrev pub is_next : Attempt → Piece → Bool
is_next a p = place_of p == 0 || place_of p == a.next

-- what a call gives that is accepted after so many items, of which this is the first
abbrev pub accepted : List ℕ → ℕ → Option Cell → Outcome
accepted function zero item = Gave cells.Null
accepted function (suc zero) item = Gave (or_null item)
accepted function (suc (suc n)) item = Fails (TooMany function (suc (suc n)))

-- what a call gives whose ending means this; nothing where it is asked again
abbrev pub outcome_by : Verdict → List ℕ → ℕ → Attempt → Option Outcome
outcome_by Accept function count a = Some (accepted function count a.item)
outcome_by Again function count a = None
outcome_by (Refuse text) function count a = Some (Fails (Error function (suc a.tries) text))
outcome_by Open function count a = None

-- the next attempt: it waits for its delay, from this tick on
abbrev pub asked_again : Rule → ℕ → Attempt → Attempt
asked_again rule tick a = record { tries = suc a.tries; listed = false; due = min (2 ^ 64 - 1) (tick + delay_by rule.retry (suc a.tries)); next = 0; item = None }

-- an attempt that is over
abbrev pub over : Attempt → Attempt
over a = record { tries = a.tries; listed = a.listed; due = a.due; next = 0; item = None }

abbrev pub attempt_by : Verdict → Rule → ℕ → Attempt → Attempt
attempt_by Accept rule tick a = over a
attempt_by Again rule tick a = asked_again rule tick a
attempt_by (Refuse text) rule tick a = over a
attempt_by Open rule tick a = over a

-- the item at place 0 is kept, the first time that it comes
abbrev pub with_item : ℕ → Cell → Attempt → Attempt
with_item place x a = record { tries = a.tries; listed = a.listed; due = a.due; next = suc place; item = or_else a.item (Some x) }

-- what the call gives with this piece, if that ends it
abbrev pub heard_outcome : Rule → List ℕ → Piece → Attempt → Option Outcome
heard_outcome rule function (piece.Item place x) a = None
heard_outcome rule function (piece.Ending count ending) a = outcome_by (judged rule (suc a.tries) (Some ending)) function count a

-- the attempt after this piece, which is taken in at this tick
abbrev pub heard_attempt : Rule → ℕ → Piece → Attempt → Attempt
heard_attempt rule tick (piece.Item place x) a = with_item place x a
heard_attempt rule tick (piece.Ending count ending) a = attempt_by (judged rule (suc a.tries) (Some ending)) rule tick a

-- the present attempt is listed
abbrev pub listed_attempt : Attempt → Attempt
listed_attempt a = record { tries = a.tries; listed = true; due = a.due; next = a.next; item = a.item }

-- for the model of a flight: one more attempt can be counted, and after the first piece the item at place 0 is there
pub record IsAttempt (a : Attempt) : Type 0 where
  pub room : suc a.tries < 2 ^ 32
  pub first : 1 ≤ a.next → IsSome a.item
