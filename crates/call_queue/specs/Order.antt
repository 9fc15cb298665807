-- Jobs that stand by the ticks at which they are due.
use Rattle.std.specs.Prelude.{◌≡◌, ℕ, ◌≤◌, Bool, false, List, [], ◌∷◌, ◌++◌, Option, Some, None}
use Rattle.std.specs.List.{AllByRecursion}
use Rattle.call_jobs.specs.declared.job.Job.{Job}
use Rattle.call_queue.specs.Lines.{is_due}

abbrev pub IsByDue : List Job → Type 0
IsByDue [] = Unit {0}
IsByDue (job ∷ jobs) = AllByRecursion (λ (later : Job). job.due ≤ later.due) jobs × IsByDue jobs

-- the first of them, if there is one, is due
abbrev pub is_first_due : ℕ → List Job → Bool
is_first_due tick [] = false
is_first_due tick (job ∷ jobs) = is_due tick job

-- the first of those that wait went to the end of those in line
pub record HasMoved (ready waiting new_ready new_waiting : List Job) : Type 0 where
  pub job : Job
  pub left : waiting ≡ job ∷ new_waiting
  pub came : new_ready ≡ ready ++ job ∷ []

-- the tick of the first
abbrev pub first_tick : List Job → Option ℕ
first_tick [] = None
first_tick (job ∷ jobs) = Some job.due
