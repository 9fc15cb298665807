-- The calls of a child and its link, counted with repeats.
use Rattle.std.specs.Prelude.{◌≡◌, ℕ, ◌+◌, List, [], ◌∷◌}
use Rattle.call_jobs.specs.Jobs.{asked_by}
use Rattle.call_jobs.specs.declared.job.Job.{Job}
use Rattle.sp_outside.specs.Log.{pending}
use Rattle.sp_outside.specs.declared.log.Event.{Event}
use Rattle.sp_outside.specs.declared.log.OpenCall.{OpenCall}
use Rattle.child_link.specs.Bag.{Weight, weigh, heard, again}

-- what jobs ask, by weight
abbrev pub weigh_jobs : Weight → List Job → ℕ
weigh_jobs w [] = 0
weigh_jobs w (job ∷ jobs) = w (asked_by job) + weigh_jobs w jobs

-- what was heard, and what the link has open
abbrev pub debit : Weight → List Event → List OpenCall → ℕ
debit w log calls = heard w log + weigh w calls

-- what was open at a start, once for each start, and what is open at the child
abbrev pub credit : Weight → List Event → ℕ
credit w log = again w log + weigh w (pending log)

-- from a log and open calls to others, these jobs came in, and those went out: what is heard and open grew by as much as what is
-- asked again and open at the child, and by what came in less what went out
abbrev pub Moves : List Event → List OpenCall → List Event → List OpenCall → List Job → List Job → Type 0
Moves log calls log' calls' into out = (w : Weight) → debit w log' calls' + (credit w log + weigh_jobs w out) ≡ debit w log calls + (credit w log' + weigh_jobs w into)
