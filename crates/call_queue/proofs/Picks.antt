-- What is picked of a line, from the steps that picked it.
use Rattle.std.proofs.Common.{◌≡◌, ℕ, ◌+◌, List, [], ◌∷◌, ◌++◌, take, drop, suc, zero, Option, Some, sym, ap, subst, ◌∙◌}
use Rattle.std.specs.List.{slice_get, remove}
use Rattle.call_jobs.specs.declared.job.Job.{Job}
use Rattle.rate_gate.specs.Asking.{IsGranted}
use Rattle.rate_gate.specs.Limits.{GateView}
use Rattle.rate_gate.specs.declared.permit.Permit.{Permit}
use Rattle.call_queue.specs.Lines.{LineView, in_line, not_due, at_tick}
use Rattle.call_queue.specs.Order.{IsByDue, first_tick}
use Rattle.call_queue.specs.Picking.{IsPicked, NoneIsReady, sooner, least, due_ticks}
use Rattle.call_queue.specs.Turns.{IsTurn, AreHeld}
use Rattle.call_queue.proofs.Holding.{least_append, soonest_first}

parts : {X : Type 0} (xs : List X) (k : ℕ) (x : X) → slice_get xs k ≡ Some x → xs ≡ take k xs ++ x ∷ drop (suc k) xs
parts [] k x h = absurd (cc)
parts (y ∷ ys) zero x h = let e : y ≡ x = cc in ap (λ z. z ∷ ys) e
parts (y ∷ ys) (suc k) x h = ap (λ zs. y ∷ zs) (parts ys k x h)

-- a line by its parts
pub line_is : (ready ready' waiting waiting' : List Job) (room room' : ℕ) → ready ≡ ready' → waiting ≡ waiting' → room ≡ room'
    → ◌≡◌ {A = LineView} (record { ready = ready; waiting = waiting; room = room }) (record { ready = ready'; waiting = waiting'; room = room' })
line_is ready ready' waiting waiting' room room' r w n =
    ap (λ (xs : List Job). record { ready = xs; waiting = waiting; room = room }) r
    ∙ ap (λ (xs : List Job). record { ready = ready'; waiting = xs; room = room }) w
    ∙ ap (λ (k : ℕ). record { ready = ready'; waiting = waiting'; room = k }) n

pub picked : (g : GateView) (tick : ℕ) (old new : LineView) (place : ℕ) (job : Job) (permit : Permit) (h : GateView) → IsTurn g tick (in_line tick old) place permit h
    → slice_get (in_line tick old) place ≡ Some job → new ≡ record { ready = remove (in_line tick old) place; waiting = not_due tick old; room = old.room + 1 } → IsPicked g tick old job permit new h
picked g tick old new place job permit h turn at left =
    let both : Some turn.job ≡ Some job = sym turn.at ∙ at in
    let same : turn.job ≡ job = cc in
    record {
      before = take place (in_line tick old);
      after = drop (suc place) (in_line tick old);
      line = parts (in_line tick old) place job at;
      until = turn.before.1.until;
      held = turn.before.1.held;
      granted = subst (λ (j : Job). IsGranted g j.tags tick h permit) same turn.granted;
      left = left;
    }

pub none_ready : (g : GateView) (tick : ℕ) (old new : LineView) (next held : Option ℕ) (h : GateView) → IsByDue (not_due tick old) → AreHeld g tick (in_line tick old) held → h ≡ g
    → next ≡ sooner held (first_tick (not_due tick old)) → new ≡ at_tick tick old → NoneIsReady g tick old next new h
none_ready g tick old new next held h order are same soonest left = record {
  until = are.until;
  held = are.held;
  soonest = soonest ∙ ap (λ a. sooner a (first_tick (not_due tick old))) are.soonest ∙ ap (sooner (least are.until)) (soonest_first (not_due tick old) order)
      ∙ sym (least_append are.until (due_ticks (not_due tick old)));
  left = left;
  gate = same;
}
