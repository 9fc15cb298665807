-- A slot keeps what it keeps.
use Rattle.std.proofs.Common.{◌≡◌, ℕ, zero, suc, length, ◌<◌, ◌≤◌, ◌^◌, Bool, true, false, cond, List, [], ◌∷◌, ◌++◌, Option, Some, None, Result, Ok, sym, ap, ◌∙◌, subst, arith}
use Rattle.std.specs.Prelude.{slice_get, slice_set, get_or, IfSome}
use Rattle.std.specs.List.{AllByRecursion, remove}
use Rattle.std.proofs.lemmas.Option.{slice_get-get_or}
use Rattle.rate_gate.specs.Asking.{IsGranted, Answered}
use Rattle.rate_gate.specs.declared.wait.Wait.{Wait}
use Rattle.rate_gate.specs.Journal.{IsOpen, IsOrdered, last_tick}
use Rattle.rate_gate.specs.Limits.{GateView}
use Rattle.rate_gate.specs.declared.entry.Entry.TheVariants.{Grant}
use Rattle.rate_gate.specs.declared.permit.Permit.{Permit}
use Rattle.rate_gate.specs.declared.tag_list.TagList.{TagList}
use Rattle.child_link.specs.Sent.{flight_of}
use Rattle.child_link.specs.declared.prepared.Prepared.{Prepared}
use Rattle.rate_gate.specs.declared.entry.Entry.{Entry}
use Rattle.rate_gate.specs.declared.permit.Used.{Used}
use Rattle.child_link.specs.Arrived.{IsArrival, counted}
use Rattle.child_link.specs.declared.arrival.Arrived.{Arrived}
use Rattle.child_link.specs.declared.flight.Flight.{Flight}
use Rattle.sp_world.specs.Fits.{is_last}
use Rattle.child_link.specs.Arrivals.{shown}
use Rattle.plain_desk.specs.Slots.{IsDue, Keeps, returned}
use Rattle.plain_desk.proofs.Granting.{held_more, held_removed, held_set, last_of_grant, last_of_return, all_removed, all_at}

-- ---- due calls

all_set : (tick : ℕ) (fs : List Flight) (at : ℕ) (f : Flight) → AllByRecursion (IsDue tick) fs → slice_get fs at ≡ Some f → AllByRecursion (IsDue tick) (slice_set fs at (counted f))
all_set tick [] at f h is = absurd (cc)
all_set tick (x ∷ fs) zero f h is = (all_at (IsDue tick) (x ∷ fs) 0 f h is, h.1)
all_set tick (x ∷ fs) (suc at) f h is = (h.0, all_set tick fs at f h.1 is)

pub all_more : (tick : ℕ) (fs : List Flight) (f : Flight) → AllByRecursion (IsDue tick) fs → IsDue tick f → AllByRecursion (IsDue tick) (fs ++ f ∷ [])
all_more tick [] f h d = (d, tt)
all_more tick (x ∷ fs) f h d = (h.0, all_more tick fs f h.1 d)

all_later : (tick later : ℕ) (fs : List Flight) → tick ≤ later → AllByRecursion (IsDue tick) fs → AllByRecursion (IsDue later) fs
all_later tick later [] le h = tt
all_later tick later (f ∷ fs) le h = (omega (arith, le, h.0), all_later tick later fs le h.1)

-- a later tick
pub keeps_later : (fs : List Flight) (journal : List Entry) (tick later : ℕ) → tick ≤ later → later ≤ 2 ^ 62 → Keeps fs journal tick → Keeps fs journal later
keeps_later fs journal tick later le small h = record { held = h.held; due = all_later tick later fs le h.due; clock = omega (arith, le, h.clock); small = small }

-- ---- a line comes in

-- what an end gives back, and what is left
arrived_by : (last : Bool) (fs gs : List Flight) (journal : List Entry) (tick at : ℕ) (f : Flight) (used : Option Used) → Keeps fs journal tick → slice_get fs at ≡ Some f
    → used ≡ cond last (Some f.used) None → gs ≡ cond last (remove fs at) (slice_set fs at (counted f))
    → IfSome used (λ u. IsOpen journal u.number u.tags) × Keeps gs (returned journal used tick) tick
arrived_by true fs gs journal tick at f used h there is left =
    let e = held_removed journal tick true fs at f h.held there in (
      subst (λ o. IfSome o (λ u. IsOpen journal u.number u.tags)) (sym is) e.0,
      subst (λ o. Keeps gs (returned journal o tick) tick) (sym is)
          (subst (λ xs. Keeps xs (returned journal (Some f.used) tick) tick) (sym left)
          (record { held = e.1; due = all_removed (IsDue tick) fs at h.due; clock = (let l = last_of_return journal f.used.number tick true in omega (arith, l)); small = h.small })),
    )
arrived_by false fs gs journal tick at f used h there is left = (
  subst (λ o. IfSome o (λ u. IsOpen journal u.number u.tags)) (sym is) tt,
  subst (λ o. Keeps gs (returned journal o tick) tick) (sym is)
      (subst (λ xs. Keeps xs journal tick) (sym left)
      (record { held = held_set journal fs at f h.held there; due = all_set tick fs at f h.due there; clock = h.clock; small = h.small })),
)

pub arrived : {X : Type 0} (bytes : List ℕ) (fs gs : List Flight) (journal : List Entry) (tick : ℕ) (a : Arrived X) → Keeps fs journal tick → IsArrival bytes fs gs a
    → IfSome a.used (λ u. IsOpen journal u.number u.tags) × Keeps gs (returned journal a.used tick) tick
arrived bytes fs gs journal tick a h is = arrived_by (is_last (shown a.told).1) fs gs journal tick is.at is.flight a.used h is.there is.used is.left

-- ---- a call is sent

pub sent : (before after : GateView) (tags : TagList) (tick id : ℕ) (permit : Permit) (call : Prepared) (fs gs : List Flight) → IsOrdered before.journal → Keeps fs before.journal tick
    → IsGranted before tags tick after permit → call.job.due ≤ tick → gs ≡ fs ++ flight_of id call permit ∷ [] → Keeps gs after.journal tick
sent before after tags tick id permit call fs gs ordered h granted due more =
    let journal : after.journal ≡ before.journal ++ Grant permit.number permit.tags tick ∷ [] = ap (λ (v : GateView). v.journal) granted.after in
    let last = ap last_tick journal ∙ last_of_grant before.journal permit.number tick permit.tags in
    record {
      held = held_more before.journal after.journal tick fs gs (flight_of id call permit) ordered h.held granted.number journal more;
      due = subst (λ xs. AllByRecursion (IsDue tick) xs) (sym more) (all_more tick fs (flight_of id call permit) h.due due);
      clock = omega (arith, last);
      small = h.small;
    }

-- the call at a place is due
pub due_at : (tick : ℕ) (calls : List Prepared) (at : ℕ) (call : Prepared) → at < length calls → call ≡ get_or calls at call → ((p : Prepared) → slice_get calls at ≡ Some p → p.job.due ≤ tick) → call.job.due ≤ tick
due_at tick calls at call within is due = due call (slice_get-get_or calls at call within ∙ ap Some (sym is))

pub granted : (before after : GateView) (tags : TagList) (tick : ℕ) (asked : Result Permit Wait) (permit : Permit) → Answered before tags tick after asked → asked ≡ Ok permit → IsGranted before tags tick after permit
granted before after tags tick asked permit h is = subst (λ (r : Result Permit Wait). Answered before tags tick after r) is h
