-- What the child of a slot hears.
use Rattle.std.specs.Prelude.{ℕ, Bool, List, IsTrue, IfSome, slice_get}
use Rattle.std.specs.List.{AllByRecursion}
use Rattle.call_jobs.specs.Jobs.{asked_by, function_by}
use Rattle.call_jobs.specs.declared.job.Job.{Job}
use Rattle.sp_model.specs.Book.{Book}
use Rattle.sp_outside.specs.declared.log.Event.{Event}
use Rattle.child_link.specs.Heard.{MayHear, HeardLawfully}
use Rattle.plain_desk.specs.declared.slot_parts.SlotParts.{SlotParts}

-- what waits may be sent to the slot's child, and what this heard was lawful
pub record IsLawfulSlot {X Kid : Type 0} (tells : Bool) (book : Book) (own : Kid → List ℕ) (log : Kid → List Event) (s : SlotParts X Kid) : Type 0 where
  pub heard : IsTrue tells → HeardLawfully tells book (own s.link.child) (log s.link.child)
  pub waiting : AllByRecursion (λ p. MayHear tells book (own s.link.child) (asked_by p.job) (function_by p.job)) s.waiting.items

-- the child of the slot at a place, where there is one, may hear what a job asks
abbrev pub MayHearAt : {X Kid : Type 0} → Bool → Book → (Kid → List ℕ) → List (SlotParts X Kid) → ℕ → Job → Type 0
MayHearAt tells book own slots place job = IfSome (slice_get slots place) (λ s. MayHear tells book (own s.link.child) (asked_by job) (function_by job))
