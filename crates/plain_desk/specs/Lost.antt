-- Lost children.
use Rattle.std.specs.Prelude.{◌≡◌, ℕ, ◌+◌, ◌≤◌, Bool, true, false, List, IsTrue, IsSomeAnd, slice_get, Contains}
use Rattle.sp_model.specs.Book.{Book}
use Rattle.sp_model.specs.Sayable.{KeepsForms}
use Rattle.plain_desk.specs.Slots.{is_gone}
use Rattle.plain_desk.specs.declared.running.Ran.{Ran}
use Rattle.plain_desk.specs.declared.running.Ran.TheVariants as ran
use Rattle.plain_desk.specs.declared.slot_parts.SlotParts.{SlotParts}
use Rattle.plain_desk.specs.declared.stepping.Stepped.{Stepped}
use Rattle.plain_desk.specs.declared.stepping.Stepped.TheVariants as stepped

-- a child that was lost counted it: a fault, or a line that it gave; where children tell and are honest, a fault
abbrev pub HasLost : {Kid : Type 0} → Bool → Book → (Kid → ℕ) → (Kid → ℕ) → Kid → Type 0
HasLost tells book faulted gives child = (1 ≤ faulted child + gives child) × (IsTrue tells → KeepsForms book → 1 ≤ faulted child)

-- the slot is gone, and its child was lost
abbrev pub IsGone : {X Kid : Type 0} → (Kid → Type 0) → SlotParts X Kid → Type 0
IsGone lost s = (is_gone s.stage ≡ true) × lost s.link.child

-- there is a slot at this place, and it is gone
abbrev pub IsGoneAt : {X Kid : Type 0} → (Kid → Type 0) → List (SlotParts X Kid) → ℕ → Type 0
IsGoneAt lost slots place = IsSomeAnd (slice_get slots place) (IsGone lost)

-- a slot that is gone stays gone
abbrev pub KeepGone : {X Kid : Type 0} → (Kid → Type 0) → List (SlotParts X Kid) → List (SlotParts X Kid) → Type 0
KeepGone lost old new = (place : ℕ) → IsGoneAt lost old place → IsGoneAt lost new place

-- of each connection that is known to be gone, by its number, the slot at that place is gone, after one loss
abbrev pub AreGone : {X Kid : Type 0} → (Kid → Type 0) → List (SlotParts X Kid) → List (ℕ × ℕ) → Type 0
AreGone lost slots gone = (number losses : ℕ) → Contains gone (number, losses) → (losses ≡ 1) × IsGoneAt lost slots number

-- ---- a step

abbrev pub is_loss : {X : Type 0} → Stepped X → Bool
is_loss stepped.Lost = true
is_loss _ = false

-- where a slot was lost, its place has this property
abbrev pub IfLoss : {X : Type 0} → Ran X → (ℕ → Type 0) → Type 0
IfLoss (ran.Lost place) P = P place
IfLoss _ P = Unit {0}
