-- Children that are lost, and slots that are gone.
use Rattle.std.proofs.Common.{◌≡◌, ℕ, zero, suc, ◌<◌, ◌≤◌, Bool, false, List, [], ◌∷◌, ◌++◌, length, Contains, Option, None, Result, Ok, Err, ◌⊎◌, ⊎_elim, get_or, slice_set, IsTrue, refl, sym, ap, ◌∙◌, subst, arith}
use Rattle.std.proofs.lemmas.List.Elements.{Contains-push_cases}
use Rattle.sp_model.specs.Book.{Book}
use Rattle.sp_model.specs.Sayable.{KeepsForms}
use Rattle.sp_outside.specs.Causes.{Rose}
use Rattle.sp_outside.specs.declared.log.Loss.{Loss}
use Rattle.sp_outside.specs.declared.log.Loss.TheVariants as loss
use Rattle.child_link.specs.Arrived.{IsCounted, HasLooked, IsFitting, is_memory}
use Rattle.child_link.specs.Open.{looked_at}
use Rattle.child_link.specs.declared.arrival.RecvEnd.{RecvEnd}
use Rattle.child_link.specs.declared.arrival.RecvEnd.TheVariants as end
use Rattle.plain_desk.specs.Lost.{HasLost, IsGone, IsGoneAt, KeepGone, AreGone}
use Rattle.plain_desk.specs.declared.slot_parts.SlotParts.{SlotParts}

-- ---- a loss

rose : (before now : ℕ) → Rose before now → 1 ≤ now
rose before now h = omega (arith, h)

lost_by_fault : {Kid : Type 0} (tells : Bool) (book : Book) (faulted gives : Kid → ℕ) (child : Kid) (before : ℕ) → Rose before (faulted child) → HasLost tells book faulted gives child
lost_by_fault tells book faulted gives child before h = let n = rose before (faulted child) h in (omega (arith, n), λ t k. n)

-- by a start or a send that failed
pub lost_by_failing : {T Kid : Type 0} (tells : Bool) (book : Book) (faulted gives : Kid → ℕ) (child : Kid) (before : ℕ) (x : T) (l : Loss)
    → ◌≡◌ {A = Result T Loss} (Err l) (Ok x) ⊎ (◌≡◌ {A = Result T Loss} (Err l) (Err loss.Fault) × Rose before (faulted child)) → HasLost tells book faulted gives child
lost_by_failing tells book faulted gives child before x l h = ⊎_elim (λ no. absurd (cc)) (λ p. lost_by_fault tells book faulted gives child before p.1) h

-- by a try to receive
pub lost_by_receiving : {X Kid : Type 0} (tells : Bool) (book : Book) (faulted gives : Kid → ℕ) (child : Kid) (faults lines : ℕ) (kept : Option (List ℕ)) (r : Result X RecvEnd) (e : RecvEnd) (l : Loss)
    → r ≡ Err e → e ≡ end.Lost l → IsCounted r faults (faulted child) → HasLooked r lines (looked_at (gives child) kept) → (is_memory r ≡ false → kept ≡ None) → (IsTrue tells → KeepsForms book → IsFitting r)
    → HasLost tells book faulted gives child
lost_by_receiving tells book faulted gives child faults lines kept (Ok x) e l is lost counted looked none fits = absurd (cc)
lost_by_receiving tells book faulted gives child faults lines kept (Err end.Memory) e l is lost counted looked none fits = absurd (cc)
lost_by_receiving tells book faulted gives child faults lines kept (Err (end.Lost loss.Fault)) e l is lost counted looked none fits = lost_by_fault tells book faulted gives child faults counted
lost_by_receiving tells book faulted gives child faults lines kept (Err (end.Lost (loss.Bad bytes pending))) e l is lost counted looked none fits =
    let n = rose lines (gives child) (subst (λ k. Rose lines (looked_at (gives child) k)) (none refl) looked) in
    (omega (arith, n), λ t k. absurd (fits t k))

-- ---- the slots

-- a slot changes, and stays gone where it was
pub keep_set : {X Kid : Type 0} (lost : Kid → Type 0) (slots : List (SlotParts X Kid)) (at : ℕ) (before after : SlotParts X Kid) → before ≡ get_or slots at before
    → (IsGone lost before → IsGone lost after) → KeepGone lost slots (slice_set slots at after)
keep_set lost [] at before after is keeps place h = h
keep_set lost (s ∷ ss) zero before after is keeps zero h = keeps (subst (λ y. IsGone lost y) (sym is) h)
keep_set lost (s ∷ ss) zero before after is keeps (suc place) h = h
keep_set lost (s ∷ ss) (suc at) before after is keeps zero h = h
keep_set lost (s ∷ ss) (suc at) before after is keeps (suc place) h = keep_set lost ss at before after is keeps place h

pub gone_set : {X Kid : Type 0} (lost : Kid → Type 0) (slots : List (SlotParts X Kid)) (at : ℕ) (after : SlotParts X Kid) → at < length slots → IsGone lost after → IsGoneAt lost (slice_set slots at after) at
gone_set lost [] at after within h = absurd (omega (arith, within))
gone_set lost (s ∷ ss) zero after within h = h
gone_set lost (s ∷ ss) (suc at) after within h = gone_set lost ss at after (omega (arith, within)) h

-- ---- the connections that are known to be gone

pub none_gone : {X Kid : Type 0} (lost : Kid → Type 0) (slots : List (SlotParts X Kid)) (gone : List (ℕ × ℕ)) → gone ≡ [] → AreGone lost slots gone
none_gone lost slots gone is number losses h = let e = subst (λ xs. Contains xs (number, losses)) is h in absurd (omega (arith, e.1))

pub still_gone : {X Kid : Type 0} (lost : Kid → Type 0) (slots later : List (SlotParts X Kid)) (gone same : List (ℕ × ℕ)) → AreGone lost slots gone → KeepGone lost slots later → same ≡ gone
    → AreGone lost later same
still_gone lost slots later gone same are keep is number losses h =
    let e = are number losses (subst (λ xs. Contains xs (number, losses)) is h) in
    (e.0, keep number e.1)

-- one more, after one loss
pub more_gone : {X Kid : Type 0} (lost : Kid → Type 0) (slots later : List (SlotParts X Kid)) (gone more : List (ℕ × ℕ)) (place number : ℕ) → AreGone lost slots gone → KeepGone lost slots later
    → IsGoneAt lost later place → number ≡ place → more ≡ gone ++ (number, 1) ∷ [] → AreGone lost later more
more_gone lost slots later gone more place number are keep there same is n losses h =
    ⊎_elim (λ old. (let e = are n losses old in (e.0, keep n e.1)))
    (λ new. (sym (ap (λ (p : ℕ × ℕ). p.1) new), subst (λ m. IsGoneAt lost later m) (sym same ∙ ap (λ (p : ℕ × ℕ). p.0) new) there))
    (Contains-push_cases gone (number, 1) (n, losses) (subst (λ xs. Contains xs (n, losses)) is h))
