-- What a gate answers to the jobs of a line, asked in their order.
use Rattle.std.specs.Prelude.{◌≡◌, ℕ, ◌<◌, List, take, Option, Some}
use Rattle.std.specs.List.{AllZip, slice_get}
use Rattle.call_jobs.specs.declared.job.Job.{Job}
use Rattle.rate_gate.specs.Asking.{IsGranted}
use Rattle.rate_gate.specs.Limits.{GateView}
use Rattle.rate_gate.specs.declared.permit.Permit.{Permit}
use Rattle.call_queue.specs.Picking.{IsHeld, least}
use Rattle.call_queue.specs.declared.turns.Reply.{Reply}
use Rattle.call_queue.specs.declared.turns.Reply.TheVariants as reply
use Rattle.call_queue.specs.declared.turns.Turn.{Turn}
use Rattle.call_queue.specs.declared.turns.Turn.TheVariants as turn

abbrev pub IsReplied : GateView → ℕ → Job → Reply → GateView → Type 0
IsReplied g tick job (reply.Granted permit) h = IsGranted g job.tags tick h permit
IsReplied g tick job (reply.Held until) h = IsHeld g tick job until × (h ≡ g)
IsReplied g tick job reply.Memory h = h ≡ g

-- the jobs are held, until these ticks
pub record AreHeld (g : GateView) (tick : ℕ) (jobs : List Job) (next : Option ℕ) : Type 0 where
  pub until : List (Option ℕ)
  pub held : AllZip (IsHeld g tick) jobs until
  pub soonest : next ≡ least until

-- those before the job at a place are held, and it is granted
pub record IsTurn (g : GateView) (tick : ℕ) (jobs : List Job) (place : ℕ) (permit : Permit) (h : GateView) : Type 0 where
  pub before : (next : Option ℕ) × AreHeld g tick (take place jobs) next
  pub job : Job
  pub at : slice_get jobs place ≡ Some job
  pub granted : IsGranted g job.tags tick h permit

abbrev pub HasTurned : GateView → ℕ → List Job → Turn → GateView → Type 0
HasTurned g tick jobs (turn.Granted place permit) h = IsTurn g tick jobs place permit h
HasTurned g tick jobs (turn.Held next) h = AreHeld g tick jobs next × (h ≡ g)
HasTurned g tick jobs turn.Memory h = h ≡ g

abbrev pub IsWithin : ℕ → Turn → Type 0
IsWithin count (turn.Granted place permit) = place < count
IsWithin count (turn.Held next) = Unit {0}
IsWithin count turn.Memory = Unit {0}
