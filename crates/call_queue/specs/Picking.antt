-- Which job of a line is picked.
use Rattle.std.specs.Prelude.{◌≡◌, ℕ, ◌+◌, List, [], ◌∷◌, ◌++◌, map, min, Option, Some, None}
use Rattle.std.specs.List.{AllZip}
use Rattle.call_jobs.specs.declared.job.Job.{Job}
use Rattle.rate_gate.specs.Asking.{IsGranted}
use Rattle.rate_gate.specs.Limits.{GateView, HasFull, IsUntil}
use Rattle.rate_gate.specs.declared.permit.Permit.{Permit}
use Rattle.call_queue.specs.declared.picked.Picked.{Picked}
use Rattle.call_queue.specs.declared.picked.Picked.TheVariants as picked
use Rattle.call_queue.specs.Lines.{LineView, in_line, not_due, at_tick}

-- the gate grants the job's call nothing at a tick: an instance is full; or none is, and this is the tick from which on each has a token
abbrev pub IsHeld : GateView → ℕ → Job → Option ℕ → Type 0
IsHeld g tick job None = HasFull g job.tags
IsHeld g tick job (Some until) = IsUntil g job.tags tick until

abbrev pub sooner : Option ℕ → Option ℕ → Option ℕ
sooner None b = b
sooner (Some a) None = Some a
sooner (Some a) (Some b) = Some (min a b)

-- the least of the ticks that there are
abbrev pub least : List (Option ℕ) → Option ℕ
least [] = None
least (t ∷ ts) = sooner t (least ts)

abbrev pub due_ticks : List Job → List (Option ℕ)
due_ticks jobs = map (λ job. Some job.due) jobs

-- the first job in line that is granted: those before it are held
pub record IsPicked (g : GateView) (tick : ℕ) (old : LineView) (job : Job) (permit : Permit) (new : LineView) (h : GateView) : Type 0 where
  pub before : List Job
  pub after : List Job
  pub line : in_line tick old ≡ before ++ job ∷ after
  pub until : List (Option ℕ)
  pub held : AllZip (IsHeld g tick) before until
  pub granted : IsGranted g job.tags tick h permit
  pub left : new ≡ record { ready = before ++ after; waiting = not_due tick old; room = old.room + 1 }

-- each job in line is held, and `next` is the least of the ticks from which on they have a token and of those for which others wait
pub record NoneIsReady (g : GateView) (tick : ℕ) (old : LineView) (next : Option ℕ) (new : LineView) (h : GateView) : Type 0 where
  pub until : List (Option ℕ)
  pub held : AllZip (IsHeld g tick) (in_line tick old) until
  pub soonest : next ≡ least (until ++ due_ticks (not_due tick old))
  pub left : new ≡ at_tick tick old
  pub gate : h ≡ g

-- what is picked of a line
abbrev pub HasPicked : GateView → ℕ → LineView → Picked → LineView → GateView → Type 0
HasPicked g tick old (picked.Job job permit) new h = IsPicked g tick old job permit new h
HasPicked g tick old (picked.NoneReady next) new h = NoneIsReady g tick old next new h
HasPicked g tick old picked.Memory new h = (new ≡ at_tick tick old) × (h ≡ g)
