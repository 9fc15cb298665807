-- What a send does.
use Rattle.std.specs.Prelude.{◌≡◌, ℕ, List, [], ◌∷◌, ◌++◌, Result, Ok, Err}
use Rattle.call_jobs.specs.Jobs.{asked_by, function_by}
use Rattle.call_jobs.specs.declared.job.Job.{Job}
use Rattle.rate_gate.specs.declared.permit.Permit.{Permit}
use Rattle.sp_world.specs.RequestLines.{request_of}
use Rattle.sp_world.specs.declared.line.Request.TheVariants.{Ask}
use Rattle.sp_outside.specs.declared.log.Event.{Event}
use Rattle.sp_outside.specs.declared.log.Event.TheVariants.{Heard}
use Rattle.child_link.specs.declared.flight.Flight.{Flight}
use Rattle.child_link.specs.declared.prepared.Prepared.{Prepared}

-- the call that it opens, with the grant that it spends
abbrev pub flight_of : ℕ → Prepared → Permit → Flight
flight_of id p permit = record { id = id; job = p.job; taken = 0; used = record { number = permit.number; tags = permit.tags }; length = p.length }

-- where the send was made the child heard the job's request under this number, else nothing
abbrev pub IsHeardIf : {T E : Type 0} → Result T E → ℕ → Job → List Event → List Event → Type 0
IsHeardIf (Ok t) id job old new = (line : List ℕ) × (request_of line ≡ Ok (Ask id (asked_by job) (function_by job))) × (new ≡ old ++ Heard line ∷ [])
IsHeardIf (Err e) id job old new = new ≡ old
