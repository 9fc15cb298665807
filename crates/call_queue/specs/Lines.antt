-- The jobs of a connection that wait to be made.
use Rattle.std.specs.Prelude.{ℕ, ◌-◌, Bool, not, List, [], ◌∷◌, ◌++◌, filter, max, nat_le, nat_eq, if◌then◌else◌}
use Rattle.std.specs.List.{insert, prefix_len}
use Rattle.call_jobs.specs.declared.job.Job.{Job}

-- in the line, as they came into it; and those that wait for a later tick, by that tick. `room` more may come without memory
pub record LineView : Type 0 where
  pub ready : List Job
  pub waiting : List Job
  pub room : ℕ

abbrev pub no_jobs : LineView
no_jobs = record { ready = []; waiting = []; room = 0 }

abbrev pub is_due : ℕ → Job → Bool
is_due tick job = nat_le job.due tick

-- after those that aren't due later
abbrev pub put_by_due : Job → List Job → List Job
put_by_due job jobs = insert jobs (prefix_len (is_due job.due) jobs) job

-- a job that isn't due at tick 0 waits for its tick
abbrev pub with_job : Job → LineView → LineView
with_job job line = record {
  ready = if nat_eq job.due 0 then line.ready ++ job ∷ [] else line.ready;
  waiting = if nat_eq job.due 0 then line.waiting else put_by_due job line.waiting;
  room = line.room - 1;
}

abbrev pub with_room : ℕ → LineView → LineView
with_room more line = record { ready = line.ready; waiting = line.waiting; room = max line.room more }

-- those whose tick has come, behind those in the line, by their ticks
abbrev pub in_line : ℕ → LineView → List Job
in_line tick line = line.ready ++ filter (is_due tick) line.waiting

-- those whose tick has not come
abbrev pub not_due : ℕ → LineView → List Job
not_due tick line = filter (λ job. not (is_due tick job)) line.waiting

-- the line at a tick
abbrev pub at_tick : ℕ → LineView → LineView
at_tick tick line = record { ready = in_line tick line; waiting = not_due tick line; room = line.room }

-- those that pass a test
abbrev pub only : (Job → Bool) → LineView → LineView
only passes line = record { ready = filter passes line.ready; waiting = filter passes line.waiting; room = line.room }

-- without those of a session
abbrev pub without_session : ℕ → LineView → LineView
without_session session line = only (λ job. not (nat_eq job.session session)) line

abbrev pub emptied : LineView → LineView
emptied line = record { ready = []; waiting = []; room = line.room }
