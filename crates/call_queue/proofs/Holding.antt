-- Jobs that are held, one after another.
use Rattle.std.proofs.Common.{◌≡◌, ℕ, ◌+◌, ◌<◌, ◌≤◌, List, [], ◌∷◌, ◌++◌, length, take, get_or, min, Option, Some, None, refl, sym, ap, subst, ◌∙◌, arith}
use Rattle.std.proofs.lemmas.List.{take_more}
use Rattle.std.specs.List.{AllByRecursion, AllZip}
use Rattle.call_jobs.specs.declared.job.Job.{Job}
use Rattle.rate_gate.specs.Limits.{GateView}
use Rattle.call_queue.specs.Order.{IsByDue, first_tick}
use Rattle.call_queue.specs.Picking.{IsHeld, sooner, least, due_ticks}
use Rattle.call_queue.specs.Turns.{AreHeld}

zip_more : {A B : Type 0} (R : A → B → Type 0) (xs : List A) (ys : List B) (x : A) (y : B) → AllZip R xs ys → R x y → AllZip R (xs ++ x ∷ []) (ys ++ y ∷ [])
zip_more R [] [] x y h r = (r, tt)
zip_more R [] (b ∷ bs) x y h r = absurd h
zip_more R (a ∷ more) [] x y h r = absurd h
zip_more R (a ∷ more) (b ∷ bs) x y h r = (h.0, zip_more R more bs x y h.1 r)

sooner_none : (a : Option ℕ) → sooner a None ≡ a
sooner_none None = refl
sooner_none (Some a) = refl

min_assoc : (a b c : ℕ) → min a (min b c) ≡ min (min a b) c
min_assoc a b c = omega arith

pub sooner_assoc : (a b c : Option ℕ) → sooner a (sooner b c) ≡ sooner (sooner a b) c
sooner_assoc None b c = refl
sooner_assoc (Some a) None c = refl
sooner_assoc (Some a) (Some b) None = refl
sooner_assoc (Some a) (Some b) (Some c) = ap (λ n. Some n) (min_assoc a b c)

pub least_append : (xs ys : List (Option ℕ)) → least (xs ++ ys) ≡ sooner (least xs) (least ys)
least_append [] ys = refl
least_append (x ∷ xs) ys = ap (sooner x) (least_append xs ys) ∙ sooner_assoc x (least xs) (least ys)

pub held_none : (g : GateView) (tick : ℕ) → AreHeld g tick [] None
held_none g tick = record { until = []; held = tt; soonest = refl }

pub held_more : (g : GateView) (tick : ℕ) (jobs : List Job) (place : ℕ) (job : Job) (next until : Option ℕ) → place < length jobs → job ≡ get_or jobs place job
    → AreHeld g tick (take place jobs) next → IsHeld g tick job until → AreHeld g tick (take (place + 1) jobs) (sooner next until)
held_more g tick jobs place job next until lt at h held =
    let more : take (place + 1) jobs ≡ take place jobs ++ job ∷ [] = take_more jobs place job lt ∙ ap (λ j. take place jobs ++ j ∷ []) (sym at) in
    record {
      until = h.until ++ until ∷ [];
      held = subst (λ (js : List Job). AllZip (IsHeld g tick) js (h.until ++ until ∷ [])) (sym more) (zip_more (IsHeld g tick) (take place jobs) h.until job until h.held held);
      soonest = ap (λ n. sooner n until) h.soonest ∙ ap (sooner (least h.until)) (sym (sooner_none until)) ∙ sym (least_append h.until (until ∷ []));
    }

sooner_least : (a : ℕ) (jobs : List Job) → AllByRecursion (λ (job : Job). a ≤ job.due) jobs → sooner (Some a) (least (due_ticks jobs)) ≡ Some a
sooner_least a [] h = refl
sooner_least a (x ∷ xs) h =
    let le : a ≤ x.due = h.0 in
    let m : min a x.due ≡ a = omega arith in
    sooner_assoc (Some a) (Some x.due) (least (due_ticks xs)) ∙ ap (λ n. sooner (Some n) (least (due_ticks xs))) m ∙ sooner_least a xs h.1

-- the first of jobs that stand by their ticks is the soonest
pub soonest_first : (jobs : List Job) → IsByDue jobs → first_tick jobs ≡ least (due_ticks jobs)
soonest_first [] h = refl
soonest_first (x ∷ xs) h = sym (sooner_least x.due xs h.0)
