-- What a child heard stays lawful.
use Rattle.std.proofs.Common.{◌≡◌, ℕ, Bool, true, false, cond, List, [], ◌∷◌, ◌++◌, Result, Ok, Err, ⊎_elim, sym, subst}
use Rattle.call_jobs.specs.Jobs.{asked_by, function_by}
use Rattle.call_jobs.specs.declared.job.Job.{Job}
use Rattle.sp_model.specs.Book.{Book}
use Rattle.sp_outside.specs.declared.log.Event.{Event}
use Rattle.sp_outside.specs.declared.log.Event.TheVariants.{Heard, Given, Started}
use Rattle.child_link.specs.Arrived.{GrewByGiven}
use Rattle.child_link.specs.Heard.{MayHear, IsLawfulLine, HeardLawfully}
use Rattle.child_link.specs.Sent.{IsHeardIf}

-- ---- one event more

heard_with : (tells : Bool) (book : Book) (name : List ℕ) (log more : List Event) → HeardLawfully tells book name log → HeardLawfully tells book name more → HeardLawfully tells book name (log ++ more)
heard_with tells book name [] more h m = m
heard_with tells book name (Heard line ∷ log) more h m = (h.0, heard_with tells book name log more h.1 m)
heard_with tells book name (Given line ∷ log) more h m = heard_with tells book name log more h m
heard_with tells book name (Started ∷ log) more h m = heard_with tells book name log more h m

pub heard_line : (tells : Bool) (book : Book) (name : List ℕ) (log : List Event) (line : List ℕ) → HeardLawfully tells book name log → IsLawfulLine tells book name line → HeardLawfully tells book name (log ++ Heard line ∷ [])
heard_line tells book name log line h is = heard_with tells book name log (Heard line ∷ []) h (is, tt)

pub heard_given : (tells : Bool) (book : Book) (name : List ℕ) (log : List Event) (line : List ℕ) → HeardLawfully tells book name log → HeardLawfully tells book name (log ++ Given line ∷ [])
heard_given tells book name log line h = heard_with tells book name log (Given line ∷ []) h tt

pub heard_started : (tells : Bool) (book : Book) (name : List ℕ) (log : List Event) → HeardLawfully tells book name log → HeardLawfully tells book name (log ++ Started ∷ [])
heard_started tells book name log h = heard_with tells book name log (Started ∷ []) h tt

-- ---- a link's steps

pub start_keeps : (tells : Bool) (book : Book) (name : List ℕ) (old new : List Event) (b : Bool) → new ≡ cond b (old ++ Started ∷ []) old → HeardLawfully tells book name old → HeardLawfully tells book name new
start_keeps tells book name old new true is h = subst (λ log. HeardLawfully tells book name log) (sym is) (heard_started tells book name old h)
start_keeps tells book name old new false is h = subst (λ log. HeardLawfully tells book name log) (sym is) h

pub send_keeps : {T E : Type 0} (tells : Bool) (book : Book) (name : List ℕ) (old new : List Event) (r : Result T E) (id : ℕ) (job : Job) → IsHeardIf r id job old new → MayHear tells book name (asked_by job) (function_by job)
    → HeardLawfully tells book name old → HeardLawfully tells book name new
send_keeps tells book name old new (Ok t) id job (line, reads, is) may h =
    subst (λ log. HeardLawfully tells book name log) (sym is)
    (heard_line tells book name old line h (record { id = id; what = asked_by job; function = function_by job; reads = reads; may = may }))
send_keeps tells book name old new (Err e) id job is may h = subst (λ log. HeardLawfully tells book name log) (sym is) h

pub receive_keeps : (tells : Bool) (book : Book) (name : List ℕ) (old new : List Event) → GrewByGiven old new → HeardLawfully tells book name old → HeardLawfully tells book name new
receive_keeps tells book name old new grew h =
    ⊎_elim (λ same. subst (λ log. HeardLawfully tells book name log) (sym same) h)
    (λ w. subst (λ log. HeardLawfully tells book name log) (sym w.1) (heard_given tells book name old w.0 h)) grew
