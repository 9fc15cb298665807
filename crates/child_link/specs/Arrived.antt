-- What came in, and how a try to receive ends.
use Rattle.std.specs.Prelude.{◌≡◌, ℕ, ◌+◌, ◌≤◌, Bool, true, false, List, [], ◌∷◌, ◌++◌, ◌⊎◌, Option, Some, None, Result, Ok, Err, slice_get, slice_set, remove, if◌then◌else◌}
use Rattle.call_jobs.specs.Jobs.{asked_by}
use Rattle.sp_world.specs.Fits.{told_by, is_last}
use Rattle.sp_world.specs.ReplyLines.{ReplyLine, line_of}
use Rattle.sp_world.specs.ReplyLines as line
use Rattle.sp_outside.specs.Causes.{Rose}
use Rattle.sp_outside.specs.Log.{find_open}
use Rattle.sp_outside.specs.declared.log.Loss.TheVariants as loss
use Rattle.sp_outside.specs.declared.log.Event.{Event}
use Rattle.sp_outside.specs.declared.log.Event.TheVariants.{Given}
use Rattle.sp_outside.specs.declared.log.OpenCall.{OpenCall}
use Rattle.child_link.specs.Arrivals.{number_of, shown}
use Rattle.child_link.specs.Open.{open_of, calls_of, answer_in}
use Rattle.child_link.specs.declared.arrival.Arrived.{Arrived}
use Rattle.child_link.specs.declared.arrival.RecvEnd.{RecvEnd}
use Rattle.child_link.specs.declared.arrival.RecvEnd.TheVariants as end
use Rattle.child_link.specs.declared.flight.Flight.{Flight}

abbrev pub is_item : ReplyLine → Bool
is_item (line.Item id item) = true
is_item _ = false

-- it has given one item more
abbrev pub counted : Flight → Flight
counted f = record f { taken = f.taken + 1 }

-- the line of these bytes is for an open call, the first of the number that it names, and tells of what was asked; it is for that call's
-- seat and session; the line that ends the call gives its grant and takes it off, an item counts
pub record IsArrival {X : Type 0} (bytes : List ℕ) (before after : List Flight) (a : Arrived X) : Type 0 where
  pub flight : Flight
  pub at : ℕ
  pub line : ReplyLine
  pub there : slice_get before at ≡ Some flight
  pub reads : line_of bytes ≡ Ok line
  pub first : find_open (number_of line) (calls_of before) ≡ Some (open_of flight)
  pub tells : told_by (asked_by flight.job) flight.taken line ≡ Some (shown a.told).1
  pub asked : (shown a.told).0 ≡ asked_by flight.job
  pub seat : a.seat ≡ flight.job.seat
  pub session : a.session ≡ flight.job.session
  pub used : a.used ≡ (if is_last (shown a.told).1 then Some flight.used else None)
  pub left : after ≡ (if is_last (shown a.told).1 then remove before at else slice_set before at (counted flight))

-- the child is up after it
abbrev pub still_up : {T : Type 0} → Result T RecvEnd → Bool
still_up (Ok t) = true
still_up (Err (end.Lost l)) = false
still_up (Err end.Memory) = true

-- a fault was counted
abbrev pub IsCounted : {T : Type 0} → Result T RecvEnd → ℕ → ℕ → Type 0
IsCounted (Err (end.Lost loss.Fault)) before now = Rose before now
IsCounted _ before now = Unit {0}

-- the line of a loss is this one, which answers none of these calls, and they are kept with it
abbrev pub IsMisfit : {T : Type 0} → Result T RecvEnd → List ℕ → List OpenCall → Type 0
IsMisfit (Err (end.Lost (loss.Bad bytes pending))) last calls = (bytes ≡ last) × (pending ≡ calls) × (answer_in calls (line_of bytes) ≡ None)
IsMisfit _ last calls = Unit {0}

-- one line more was looked at
abbrev pub HasLooked : {T : Type 0} → Result T RecvEnd → ℕ → ℕ → Type 0
HasLooked (Err (end.Lost (loss.Bad bytes pending))) before now = Rose before now
HasLooked _ before now = before ≤ now

-- no line lost the child
abbrev pub IsFitting : {T : Type 0} → Result T RecvEnd → Type 0
IsFitting (Err (end.Lost (loss.Bad bytes pending))) = ⊥
IsFitting _ = Unit {0}

abbrev pub is_memory : {T : Type 0} → Result T RecvEnd → Bool
is_memory (Err end.Memory) = true
is_memory _ = false

-- the log grew by the line that waits, where one does
abbrev pub GrewBy : Option (List ℕ) → List Event → List Event → Type 0
GrewBy None old new = new ≡ old
GrewBy (Some line) old new = new ≡ old ++ Given line ∷ []

-- the log is as it was, or grew by one line that was given
abbrev pub GrewByGiven : List Event → List Event → Type 0
GrewByGiven old new = (new ≡ old) ⊎ ((line : List ℕ) × (new ≡ old ++ Given line ∷ []))
