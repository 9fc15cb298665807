-- Jobs that stand by their ticks.
use Rattle.std.proofs.Common.{◌≡◌, ℕ, zero, suc, ◌+◌, ◌≤◌, ◌<◌, Bool, true, false, not, cond, nat_le, List, [], ◌∷◌, ◌++◌, length, filter, slice_index_or, append_assoc, refl, sym, ap, subst, ◌∙◌, arith}
use Rattle.std.proofs.lemmas.Bool.{leb-true}
use Rattle.std.proofs.lemmas.Bool.Decides.{nat_tests}
use Rattle.std.proofs.lemmas.List.Sums.{prefix_len_is}
use Rattle.std.specs.List.{AllByRecursion, insert, prefix_len}
use Rattle.std.specs.List.Sorted.{IsNonDecreasingBy, IsPartitionPoint}
use Rattle.call_jobs.specs.declared.job.Job.{Job}
use Rattle.call_queue.specs.Lines.{is_due, put_by_due}
use Rattle.call_queue.specs.Order.{IsByDue, is_first_due}

due_later : (a b : ℕ) → nat_le a b ≡ false → b < a
due_later a b h = grind (arith, nat_tests)

not_le : (a b : ℕ) → b < a → nat_le a b ≡ false
not_le a b h = grind (arith, nat_tests)

-- ---- each of a list

all_at : (P : Job → Type 0) (jobs : List Job) (k : ℕ) (d : Job) → AllByRecursion P jobs → k < length jobs → P (slice_index_or jobs k d)
all_at P [] k d h lt = absurd (omega arith)
all_at P (x ∷ xs) zero d h lt = h.0
all_at P (x ∷ xs) (suc k) d h lt = all_at P xs k d h.1 (omega arith)

all_from : (P Q : Job → Type 0) (jobs : List Job) → ((job : Job) → P job → Q job) → AllByRecursion P jobs → AllByRecursion Q jobs
all_from P Q [] f h = tt
all_from P Q (x ∷ xs) f h = (f x h.0, all_from P Q xs f h.1)

all_filter : (P : Job → Type 0) (p : Job → Bool) (jobs : List Job) → AllByRecursion P jobs → AllByRecursion P (filter p jobs)
all_filter P p [] h = tt
all_filter P p (x ∷ xs) h =
    elim (p x) as (λ b. AllByRecursion P (cond b (x ∷ filter p xs) (filter p xs))) [ true ↦ (h.0, all_filter P p xs h.1) | false ↦ all_filter P p xs h.1 ]

all_insert : (P : Job → Type 0) (jobs : List Job) (n : ℕ) (job : Job) → P job → AllByRecursion P jobs → AllByRecursion P (insert jobs n job)
all_insert P [] zero job h all = (h, tt)
all_insert P [] (suc n) job h all = (h, tt)
all_insert P (x ∷ xs) zero job h all = (h, all)
all_insert P (x ∷ xs) (suc n) job h all = (all.0, all_insert P xs n job h all.1)

-- ---- order

pub not_falling : (jobs : List Job) → IsByDue jobs → IsNonDecreasingBy (λ (job : Job). job.due) jobs
not_falling [] h i j d le lt = absurd (omega arith)
not_falling (x ∷ xs) h zero zero d le lt = omega arith
not_falling (x ∷ xs) h zero (suc j) d le lt = all_at (λ (later : Job). x.due ≤ later.due) xs j d h.0 (omega arith)
not_falling (x ∷ xs) h (suc i) zero d le lt = absurd (omega arith)
not_falling (x ∷ xs) h (suc i) (suc j) d le lt = not_falling xs h.1 i j d (omega arith) (omega arith)

pub point_is : (p : Job → Bool) (jobs : List Job) (n : ℕ) → n ≤ length jobs → IsPartitionPoint (λ y. p y ≡ true) (λ y. p y ≡ false) jobs n → n ≡ prefix_len p jobs
point_is p [] n le h = omega arith
point_is p (x ∷ xs) n le h = sym (prefix_len_is p (x ∷ xs) n x le (λ k lt. h.0 k x (omega arith) lt) (λ lt. h.1 n x (omega arith) lt))

pub filter_by_due : (p : Job → Bool) (jobs : List Job) → IsByDue jobs → IsByDue (filter p jobs)
filter_by_due p [] h = tt
filter_by_due p (x ∷ xs) h =
    elim (p x) as (λ b. IsByDue (cond b (x ∷ filter p xs) (filter p xs)))
    [ true ↦ (all_filter (λ (later : Job). x.due ≤ later.due) p xs h.0, filter_by_due p xs h.1) | false ↦ filter_by_due p xs h.1 ]

put_by : (job x : Job) (xs : List Job) → IsByDue (x ∷ xs) → IsByDue (put_by_due job xs) → (b : Bool) → nat_le x.due job.due ≡ b
    → IsByDue (insert (x ∷ xs) (cond b (1 + prefix_len (is_due job.due) xs) 0) job)
put_by job x xs h later true e =
    let n : ℕ = prefix_len (is_due job.due) xs in
    let one : suc n ≡ 1 + n = omega arith in
    subst (λ (k : ℕ). IsByDue (insert (x ∷ xs) k job)) one (all_insert (λ (l : Job). x.due ≤ l.due) xs n job (leb-true x.due job.due e) h.0, later)
put_by job x xs h later false e =
    let lt : job.due < x.due = due_later x.due job.due e in
    ((omega arith, all_from (λ (l : Job). x.due ≤ l.due) (λ (l : Job). job.due ≤ l.due) xs (λ l le. omega arith) h.0), h)

pub put_keeps : (job : Job) (jobs : List Job) → IsByDue jobs → IsByDue (put_by_due job jobs)
put_keeps job [] h = (tt, tt)
put_keeps job (x ∷ xs) h = put_by job x xs h (put_keeps job xs h.1) (nat_le x.due job.due) refl

-- where the first isn't due, none is
none_due : (tick : ℕ) (jobs : List Job) → AllByRecursion (λ (job : Job). is_due tick job ≡ false) jobs → filter (is_due tick) jobs ≡ []
none_due tick [] h = refl
none_due tick (x ∷ xs) h = ap (λ b. cond b (x ∷ filter (is_due tick) xs) (filter (is_due tick) xs)) h.0 ∙ none_due tick xs h.1

all_wait : (tick : ℕ) (jobs : List Job) → AllByRecursion (λ (job : Job). is_due tick job ≡ false) jobs → filter (λ job. not (is_due tick job)) jobs ≡ jobs
all_wait tick [] h = refl
all_wait tick (x ∷ xs) h =
    ap (λ b. cond (not b) (x ∷ filter (λ job. not (is_due tick job)) xs) (filter (λ job. not (is_due tick job)) xs)) h.0 ∙ ap (λ ys. x ∷ ys) (all_wait tick xs h.1)

-- one that is due goes over to the line
pub due_over : (tick : ℕ) (ready waiting old : List Job) (job : Job) → old ≡ job ∷ waiting → is_due tick job ≡ true
    → (ready ++ job ∷ []) ++ filter (is_due tick) waiting ≡ ready ++ filter (is_due tick) old
due_over tick ready waiting old job e h =
    append_assoc ready (job ∷ []) (filter (is_due tick) waiting)
    ∙ ap (λ b. ready ++ cond b (job ∷ filter (is_due tick) waiting) (filter (is_due tick) waiting)) (sym h)
    ∙ ap (λ jobs. ready ++ filter (is_due tick) jobs) (sym e)

pub wait_over : (tick : ℕ) (waiting old : List Job) (job : Job) → old ≡ job ∷ waiting → is_due tick job ≡ true → filter (λ job. not (is_due tick job)) waiting ≡ filter (λ job. not (is_due tick job)) old
wait_over tick waiting old job e h =
    ap (λ b. cond (not b) (job ∷ filter (λ job. not (is_due tick job)) waiting) (filter (λ job. not (is_due tick job)) waiting)) (sym h)
    ∙ ap (filter (λ job. not (is_due tick job))) (sym e)

pub first_is : (tick : ℕ) (waiting old : List Job) (job : Job) → old ≡ job ∷ waiting → true ≡ is_first_due tick old → is_due tick job ≡ true
first_is tick waiting old job e h = sym (h ∙ ap (is_first_due tick) e)

pub rest_by_due : (waiting old : List Job) (job : Job) → old ≡ job ∷ waiting → IsByDue old → IsByDue waiting
rest_by_due waiting old job e h = (subst IsByDue e h).1

waits : (tick : ℕ) (jobs : List Job) → IsByDue jobs → false ≡ is_first_due tick jobs → AllByRecursion (λ (job : Job). is_due tick job ≡ false) jobs
waits tick [] h e = tt
waits tick (x ∷ xs) h e =
    let lt : tick < x.due = due_later x.due tick (sym e) in
    (sym e, all_from (λ (l : Job). x.due ≤ l.due) (λ (l : Job). is_due tick l ≡ false) xs (λ l le. not_le l.due tick (omega arith)) h.0)

-- where the first isn't due, all wait
pub rest_none : (tick : ℕ) (jobs : List Job) → IsByDue jobs → false ≡ is_first_due tick jobs → filter (is_due tick) jobs ≡ []
rest_none tick jobs h e = none_due tick jobs (waits tick jobs h e)

pub rest_all : (tick : ℕ) (jobs : List Job) → IsByDue jobs → false ≡ is_first_due tick jobs → filter (λ job. not (is_due tick job)) jobs ≡ jobs
rest_all tick jobs h e = all_wait tick jobs (waits tick jobs h e)
