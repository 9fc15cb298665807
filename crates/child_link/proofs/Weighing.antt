-- Weights of open calls and of logs.
use Rattle.std.proofs.Common.{◌≡◌, ℕ, ◌+◌, ◌++◌, Bool, true, false, cond, List, [], ◌∷◌, Option, Result, Ok, Err, refl, ap, ◌∙◌, arith, nat_eq}
use Rattle.std.specs.Prelude.{fold}
use Rattle.call_jobs.specs.Jobs.{asked_by, function_by}
use Rattle.rate_gate.specs.declared.permit.Permit.{Permit}
use Rattle.sp_model.specs.declared.call.Asked.{Asked}
use Rattle.sp_world.specs.RequestLines.{request_of}
use Rattle.sp_world.specs.declared.line.Request.TheVariants.{Ask}
use Rattle.sp_outside.specs.Log.{pending, after, opened, item_taken, one_more}
use Rattle.sp_outside.specs.declared.log.Event.{Event}
use Rattle.sp_outside.specs.declared.log.Event.TheVariants.{Heard, Given, Started}
use Rattle.sp_outside.specs.declared.log.OpenCall.{OpenCall}
use Rattle.std.proofs.lemmas.List.Sums.{fold-append}
use Rattle.child_link.specs.Bag.{Weight, weigh, asked_weight, heard, again, again_from}
use Rattle.child_link.specs.Open.{open_of, calls_of, jobs_of}
use Rattle.child_link.specs.Ledger.{weigh_jobs, credit, Moves}
use Rattle.child_link.specs.Sent.{flight_of, IsHeardIf}
use Rattle.std.proofs.lemmas.List.{map-append}
use Rattle.child_link.specs.declared.flight.Flight.{Flight}
use Rattle.child_link.specs.declared.prepared.Prepared.{Prepared}
use Rattle.call_jobs.specs.declared.job.Job.{Job}

-- ---- lists

pub weigh-append : (w : Weight) (xs ys : List OpenCall) → weigh w (xs ++ ys) ≡ weigh w xs + weigh w ys
weigh-append w [] ys = omega arith
weigh-append w (x ∷ xs) ys = let rec = weigh-append w xs ys in omega (arith, rec)

pub weigh_jobs-append : (w : Weight) (xs ys : List Job) → weigh_jobs w (xs ++ ys) ≡ weigh_jobs w xs + weigh_jobs w ys
weigh_jobs-append w [] ys = omega arith
weigh_jobs-append w (x ∷ xs) ys = let rec = weigh_jobs-append w xs ys in omega (arith, rec)

-- open calls weigh what their jobs do
pub weigh_flights : (w : Weight) (fs : List Flight) → weigh w (calls_of fs) ≡ weigh_jobs w (jobs_of fs)
weigh_flights w [] = refl
weigh_flights w (f ∷ fs) = ap (λ n. w (asked_by f.job) + n) (weigh_flights w fs)

-- ---- logs

pub heard-append : (w : Weight) (xs ys : List Event) → heard w (xs ++ ys) ≡ heard w xs + heard w ys
heard-append w [] ys = omega arith
heard-append w (Heard line ∷ xs) ys = let rec = heard-append w xs ys in omega (arith, rec)
heard-append w (Given line ∷ xs) ys = heard-append w xs ys
heard-append w (Started ∷ xs) ys = heard-append w xs ys

-- one event more: only a start adds, what was open at it
abbrev again_one : Weight → List OpenCall → Event → ℕ
again_one w calls (Heard line) = 0
again_one w calls (Given line) = 0
again_one w calls Started = weigh w calls

abbrev pending_from : List OpenCall → List Event → List OpenCall
pending_from calls log = fold after calls log

again_from_more : (w : Weight) (calls : List OpenCall) (log : List Event) (e : Event) → again_from w calls (log ++ e ∷ []) ≡ again_from w calls log + again_one w (pending_from calls log) e
again_from_more w calls [] (Heard line) = refl
again_from_more w calls [] (Given line) = refl
again_from_more w calls [] Started = omega arith
again_from_more w calls (Heard line ∷ log) e = again_from_more w (after calls (Heard line)) log e
again_from_more w calls (Given line ∷ log) e = again_from_more w (after calls (Given line)) log e
again_from_more w calls (Started ∷ log) e = let rec = again_from_more w [] log e in omega (arith, rec)

again-more : (w : Weight) (log : List Event) (e : Event) → again w (log ++ e ∷ []) ≡ again w log + again_one w (pending log) e
again-more w log e = again_from_more w [] log e

-- ---- a step of the log

pub credit_heard : (w : Weight) (log : List Event) (line : List ℕ) (id : ℕ) (what : Asked) (function : Option (List ℕ)) → request_of line ≡ Ok (Ask id what function) → credit w (log ++ Heard line ∷ []) ≡ credit w log + w what
credit_heard w log line id what function reads =
    let a = again-more w log (Heard line) in
    let open_now : pending (log ++ Heard line ∷ []) ≡ pending log ++ record { id = id; asked = what; taken = 0 } ∷ [] = fold-append after [] log (Heard line ∷ []) ∙ ap (λ r. opened r (pending log)) reads in
    let p = ap (weigh w) open_now ∙ weigh-append w (pending log) (record { id = id; asked = what; taken = 0 } ∷ []) in
    omega (arith, a, p)

pub debit_heard : (w : Weight) (log : List Event) (line : List ℕ) (id : ℕ) (what : Asked) (function : Option (List ℕ)) → request_of line ≡ Ok (Ask id what function) → heard w (log ++ Heard line ∷ []) ≡ heard w log + w what
debit_heard w log line id what function reads =
    let h = heard-append w log (Heard line ∷ []) in
    let e = ap (asked_weight w) reads in
    omega (arith, h, e)

pub credit_started : (w : Weight) (log : List Event) → credit w (log ++ Started ∷ []) ≡ credit w log
credit_started w log =
    let a = again-more w log Started in
    let p = ap (weigh w) (fold-append after [] log (Started ∷ [])) in
    omega (arith, a, p)

pub heard_started : (w : Weight) (log : List Event) → heard w (log ++ Started ∷ []) ≡ heard w log
heard_started w log = let h = heard-append w log (Started ∷ []) in omega (arith, h)

pub heard_given : (w : Weight) (log : List Event) (line : List ℕ) → heard w (log ++ Given line ∷ []) ≡ heard w log
heard_given w log line = let h = heard-append w log (Given line ∷ []) in omega (arith, h)

pub again_given : (w : Weight) (log : List Event) (line : List ℕ) → again w (log ++ Given line ∷ []) ≡ again w log
again_given w log line = let a = again-more w log (Given line) in omega (arith, a)

-- ---- a link's steps

-- one flight more
weigh_more : (w : Weight) (fs gs : List Flight) (id : ℕ) (p : Prepared) (permit : Permit) → gs ≡ fs ++ flight_of id p permit ∷ [] → weigh w (calls_of gs) ≡ weigh w (calls_of fs) + (w (asked_by p.job) + 0)
weigh_more w fs gs id p permit more =
    ap (λ xs. weigh w (calls_of xs)) more ∙ ap (weigh w) (map-append open_of fs (flight_of id p permit ∷ [])) ∙ weigh-append w (calls_of fs) (open_of (flight_of id p permit) ∷ [])

pub send_moves : {T E : Type 0} (r : Result T E) (id : ℕ) (p : Prepared) (permit : Permit) (log log' : List Event) (fs gs : List Flight) → IsHeardIf r id p.job log log'
    → gs ≡ fs ++ flight_of id p permit ∷ [] → Moves log (calls_of fs) log' (calls_of gs) (p.job ∷ []) []
send_moves (Ok t) id p permit log log' fs gs (line, reads, is) more w =
    let c = weigh_more w fs gs id p permit more in
    let d = ap (heard w) is ∙ debit_heard w log line id (asked_by p.job) (function_by p.job) reads in
    let e = ap (credit w) is ∙ credit_heard w log line id (asked_by p.job) (function_by p.job) reads in
    omega (arith, c, d, e)
send_moves (Err e) id p permit log log' fs gs is more w =
    let c = weigh_more w fs gs id p permit more in
    let d = ap (heard w) is in
    let e = ap (credit w) is in
    omega (arith, c, d, e)

pub reissue_moves : (log log' : List Event) (fs gs rs : List Flight) → log' ≡ log → gs ≡ [] → rs ≡ fs → Moves log (calls_of fs) log' (calls_of gs) [] (jobs_of rs)
reissue_moves log log' fs gs rs same none back w =
    let c = ap (λ xs. weigh w (calls_of xs)) none in
    let f = weigh_flights w fs in
    let r = ap (λ xs. weigh_jobs w (jobs_of xs)) back in
    let d = ap (heard w) same in
    let e = ap (credit w) same in
    omega (arith, c, f, r, d, e)

pub start_moves : (log log' : List Event) (b : Bool) (calls calls' : List OpenCall) → log' ≡ cond b (log ++ Started ∷ []) log → calls' ≡ calls → Moves log calls log' calls' [] []
start_moves log log' true calls calls' is same w =
    let c = ap (weigh w) same in
    let d = ap (heard w) is ∙ heard_started w log in
    let e = ap (credit w) is ∙ credit_started w log in
    omega (arith, c, d, e)
start_moves log log' false calls calls' is same w =
    let c = ap (weigh w) same in
    let d = ap (heard w) is in
    let e = ap (credit w) is in
    omega (arith, c, d, e)

-- ---- a line given

-- an item leaves the weight
weigh_taken_with : (w : Weight) (b : Bool) (c : OpenCall) (calls rest : List OpenCall) → weigh w rest ≡ weigh w calls → weigh w (cond b (one_more c ∷ calls) (c ∷ rest)) ≡ weigh w (c ∷ calls)
weigh_taken_with w true c calls rest p = refl
weigh_taken_with w false c calls rest p = ap (λ n. w c.asked + n) p

pub weigh_taken : (w : Weight) (id : ℕ) (calls : List OpenCall) → weigh w (item_taken id calls) ≡ weigh w calls
weigh_taken w id [] = refl
weigh_taken w id (c ∷ calls) = weigh_taken_with w (nat_eq c.id id) c calls (item_taken id calls) (weigh_taken w id calls)

-- while the child's open calls are the link's, before and after
pub given_moves : (log log' : List Event) (calls calls' : List OpenCall) (line : List ℕ) → log' ≡ log ++ Given line ∷ [] → pending log ≡ calls → pending log' ≡ calls' → Moves log calls log' calls' [] []
given_moves log log' calls calls' line is before now w =
    let d = ap (heard w) is ∙ heard_given w log line in
    let a = ap (again w) is ∙ again_given w log line in
    let b = ap (weigh w) before in
    let n = ap (weigh w) now in
    omega (arith, d, a, b, n)

pub quiet_moves : (log log' : List Event) (calls calls' : List OpenCall) → log' ≡ log → calls' ≡ calls → Moves log calls log' calls' [] []
quiet_moves log log' calls calls' is same w =
    let d = ap (heard w) is in
    let e = ap (credit w) is in
    let c = ap (weigh w) same in
    omega (arith, c, d, e)
