-- Calls of a row are listed, one after another.
use Rattle.std.proofs.Common.{◌≡◌, ◌<◌, ◌≤◌, ◌+◌, ◌⊎◌, inl, inr, ℕ, zero, suc, Bool, true, false, ◌&&◌, not, cond, List, [], ◌∷◌, ◌++◌, length, set, filter, Some, refl, sym, ap, subst, ◌∙◌, arith}
use Rattle.std.specs.Prelude.{slice_get}
use Rattle.std.proofs.lemmas.Bool.{cases_eq}
use Rattle.std.proofs.lemmas.List.{append_assoc, get_or-set_same}
use Rattle.sp_model.specs.declared.scan.Seat.{Seat}
use Rattle.hydrate_graph.proofs.Hydrating.{and_right}
use Rattle.hydrate_graph.specs.Graphs.{is_ready, ready_of, counted}
use Rattle.row_pool.specs.declared.key.Key.{Key}
use Rattle.scan_laws.proofs.Counting.{count_append}
use Rattle.scan_laws.specs.Counts.{count}
use Rattle.row_flight.proofs.Answering.{attempts_length}
use Rattle.row_flight.proofs.Stepping.{stays, listed_goes}
use Rattle.row_flight.proofs.Viewing.{at_other}
use Rattle.row_flight.specs.Attempts.{fresh, listed_attempt}
use Rattle.row_flight.specs.Flying.{key_at}
use Rattle.row_flight.specs.Jobs.{made_of, IsCallOf, IsRowJob, RowLists}
use Rattle.row_flight.specs.Pooled.{IsSound}
use Rattle.row_flight.specs.Rows.{flight_row, attempt_in, with_attempt, slot_of, attempt_of, call_of, is_open, row_lists, AreListed, IsRow, IsPlaced}
use Rattle.row_flight.specs.declared.frame.CallFrame.{CallFrame}
use Rattle.row_flight.specs.declared.frame.Wanted.{Wanted}
use Rattle.row_flight.specs.declared.row.RowCalls.{RowCalls}

and_both : (a b : Bool) → a ≡ true → b ≡ true → (a && b) ≡ true
and_both true b p q = q
and_both false b p q = absurd (cc)

-- ---- one function

module _ (row : RowCalls) (k slot : ℕ) (placed : IsPlaced row k slot) where
  lists_at : row_lists row k ≡ record { graph = row.graph; attempts = set row.attempts slot (listed_attempt (attempt_of row k)); all_listed = row.all_listed }
  lists_at = ap (λ t. record { graph = row.graph; attempts = with_attempt row.attempts t (listed_attempt (attempt_of row k)); all_listed = row.all_listed }) placed.at

  pub listed_here : attempt_of (row_lists row k) k ≡ listed_attempt (attempt_of row k)
  listed_here =
      ap (λ r. attempt_in r.attempts (slot_of row.graph.plan k)) lists_at
      ∙ ap (attempt_in (set row.attempts slot (listed_attempt (attempt_of row k)))) placed.at ∙ get_or-set_same row.attempts slot (listed_attempt (attempt_of row k)) fresh placed.within

  listed_other : (j : ℕ) → (j ≡ k → ⊥) → attempt_of (row_lists row k) j ≡ attempt_of row j
  listed_other j other =
      ap (λ r. attempt_in r.attempts (slot_of row.graph.plan j)) lists_at
      ∙ at_other row.graph.plan.slots row.attempts k slot (listed_attempt (attempt_of row k)) placed.apart placed.at j other (slot_of row.graph.plan j) refl

  listed_stays : (attempt_of row k).listed ≡ false → (j : ℕ) → is_open row j ≡ true → (j ≡ k) ⊎ (j ≡ k → ⊥) → attempt_of (row_lists row k) j ≡ attempt_of row j
  listed_stays l j o (inr other) = listed_other j other
  listed_stays l j o (inl e) =
      let bad : true ≡ false = sym (and_right (is_ready row.graph j) (attempt_of row j).listed o) ∙ ap (λ n. (attempt_of row n).listed) e ∙ l in
      absurd (cc)

  listed_differs : (j : ℕ) → (j ≡ k) ⊎ (j ≡ k → ⊥) → listed_attempt (attempt_of (row_lists row k) j) ≡ listed_attempt (attempt_of row j)
  listed_differs j (inl e) = ap (λ n. listed_attempt (attempt_of (row_lists row k) n)) e ∙ ap listed_attempt listed_here ∙ sym (ap (λ n. listed_attempt (attempt_of row n)) e)
  listed_differs j (inr other) = ap listed_attempt (listed_other j other)

  -- the present attempt of a ready function is listed
  pub lists_one : (frame : CallFrame) (seat : Seat) (w : Wanted) (before after : List Wanted) → k ≡ seat.function → IsRow row → is_ready row.graph k ≡ true → (attempt_of row k).listed ≡ false → IsCallOf frame seat row w → after ≡ before ++ w ∷ []
      → RowLists frame seat.scan (key_at seat) row (row_lists row k) before after
  lists_one frame seat w before after e is may l job grows =
      record {
        more = w ∷ [];
        grows = grows;
        graph = refl;
        sound = record { room = attempts_length row.attempts (slot_of row.graph.plan k) (listed_attempt (attempt_of row k)) ∙ is.room; rules = is.rules; settled = is.settled; listed = λ all. absurd (unlisted (is.listed all k placed.declared)) };
        stays = λ j o. listed_stays l j o (cases_eq j k);
        differs = λ j. listed_differs j (cases_eq j k);
        jobs = λ place v at. jobs place v at;
        keeps = λ table request answers name functions columns sound apart agrees hears.
            listed_goes table request answers row k slot apart functions sound placed may agrees hears columns l w.call.call w.call.attempt
            (ap (λ n. call_of n row k) (sym name) ∙ ap (call_of frame.table row) e ∙ job.asked) (job.attempt ∙ ap (λ n. suc (attempt_of row n).tries) (sym e));
      }
    where
      unlisted : (is_ready row.graph k && not (attempt_of row k).listed) ≡ false → ⊥
      unlisted none = let bad : true ≡ false = sym (and_both (is_ready row.graph k) (not (attempt_of row k).listed) may (ap not l)) ∙ none in cc

      here : w.seat.function ≡ k
      here = ap (λ s. s.function) job.seat_is ∙ sym e

      present : attempt_of (row_lists row k) w.seat.function ≡ listed_attempt (attempt_of row k)
      present = ap (attempt_of (row_lists row k)) here ∙ listed_here

      this : IsRowJob frame seat.scan (key_at seat) (row_lists row k) w
      this = record {
        key_is = ap key_at job.seat_is;
        scan_is = ap (λ s. s.scan) job.seat_is;
        listed = and_both (is_ready row.graph w.seat.function) (attempt_of (row_lists row k) w.seat.function).listed (ap (is_ready row.graph) here ∙ may) (ap (λ a. a.listed) present);
        call = record {
          seat_is = refl;
          asked = ap (λ s. call_of frame.table row s.function) job.seat_is ∙ job.asked;
          attempt = job.attempt ∙ ap (λ n. suc (attempt_of row n).tries) (sym e) ∙ ap (λ a. suc a.tries) (sym present);
          due = job.due ∙ ap (λ n. (attempt_of row n).due) (sym e) ∙ ap (λ a. a.due) (sym present);
          connection = job.connection;
          version = job.version;
        };
      }

      jobs : (place : ℕ) (v : Wanted) → slice_get (w ∷ []) place ≡ Some v → IsRowJob frame seat.scan (key_at seat) (row_lists row k) v
      jobs zero v at = let s : w ≡ v = cc in subst (λ z. IsRowJob frame seat.scan (key_at seat) (row_lists row k) z) s this
      jobs (suc place) v at = absurd (cc)

-- ---- one after another

pub lists_nothing : (frame : CallFrame) (scan : ℕ) (key : Key) (row : RowCalls) (before : List Wanted) → IsRow row → RowLists frame scan key row row before before
lists_nothing frame scan key row before is = record {
  more = [];
  grows = sym (append_nil before);
  graph = refl;
  sound = is;
  stays = λ k o. refl;
  differs = λ k. refl;
  jobs = λ place w at. absurd (cc);
  keeps = λ table request answers name functions columns sound apart agrees hears. record { keeps = stays table request answers (flight_row row) agrees; hears = hears };
}
  where
    append_nil : (xs : List Wanted) → xs ++ [] ≡ xs
    append_nil [] = refl
    append_nil (x ∷ xs) = ap (λ ys. x ∷ ys) (append_nil xs)

pub get_both : {X : Type 0} (P : X → Type 0) (xs ys : List X) → ((place : ℕ) (x : X) → slice_get xs place ≡ Some x → P x) → ((place : ℕ) (x : X) → slice_get ys place ≡ Some x → P x)
    → (place : ℕ) (x : X) → slice_get (xs ++ ys) place ≡ Some x → P x
get_both P [] ys left right place x at = right place x at
get_both P (y ∷ xs) ys left right zero x at = left 0 x at
get_both P (y ∷ xs) ys left right (suc place) x at = get_both P xs ys (λ j z e. left (suc j) z e) right place x at

pub made_both : (xs ys : List Wanted) → made_of (xs ++ ys) ≡ made_of xs ++ made_of ys
made_both [] ys = refl
made_both (x ∷ xs) ys = ap (λ zs. (x.call.call, x.call.attempt) ∷ zs) (made_both xs ys)

-- a call that is listed stays so
pub job_stays : (frame : CallFrame) (scan : ℕ) (key : Key) (old new : RowCalls) (before after : List Wanted) → RowLists frame scan key old new before after → (other : Key) (w : Wanted) → IsRowJob frame scan other old w → IsRowJob frame scan other new w
job_stays frame scan key old new before after lists other w job =
    let same : attempt_of new w.seat.function ≡ attempt_of old w.seat.function = lists.stays w.seat.function job.listed in
    record {
      key_is = job.key_is;
      scan_is = job.scan_is;
      listed = ap (λ g. is_ready g w.seat.function && (attempt_of new w.seat.function).listed) lists.graph ∙ ap (λ a. is_ready old.graph w.seat.function && a.listed) same ∙ job.listed;
      call = record {
        seat_is = refl;
        asked = asked lists.graph ∙ job.call.asked;
        attempt = job.call.attempt ∙ ap (λ a. suc a.tries) (sym same);
        due = job.call.due ∙ ap (λ a. a.due) (sym same);
        connection = job.call.connection;
        version = job.call.version;
      };
    }
  where
    asked : new.graph ≡ old.graph → call_of frame.table new w.seat.function ≡ call_of frame.table old w.seat.function
    asked e = ap (λ g. call_of frame.table (record { graph = g; attempts = new.attempts; all_listed = new.all_listed }) w.seat.function) e

open_stays : (frame : CallFrame) (scan : ℕ) (key : Key) (old new : RowCalls) (before after : List Wanted) → RowLists frame scan key old new before after → (k : ℕ) → is_open old k ≡ true → is_open new k ≡ true
open_stays frame scan key old new before after lists k o =
    ap (λ g. is_ready g k && (attempt_of new k).listed) lists.graph ∙ ap (λ a. is_ready old.graph k && a.listed) (lists.stays k o) ∙ o

pub lists_then : (frame : CallFrame) (scan : ℕ) (key : Key) (a b c : RowCalls) (xs ys zs : List Wanted) → RowLists frame scan key a b xs ys → RowLists frame scan key b c ys zs → RowLists frame scan key a c xs zs
lists_then frame scan key a b c xs ys zs first second = record {
  more = first.more ++ second.more;
  grows = second.grows ∙ ap (λ us. us ++ second.more) first.grows ∙ append_assoc xs first.more second.more;
  graph = second.graph ∙ first.graph;
  sound = second.sound;
  stays = λ k o. second.stays k (open_stays frame scan key a b xs ys first k o) ∙ first.stays k o;
  differs = λ k. second.differs k ∙ first.differs k;
  jobs = get_both (IsRowJob frame scan key c) first.more second.more (λ place w at. job_stays frame scan key b c ys zs second key w (first.jobs place w at)) second.jobs;
  keeps = λ table request answers name functions columns sound apart agrees hears.
      let one = first.keeps table request answers name functions columns sound apart agrees hears in
      let two = second.keeps table request answers name (ap (λ g. g.plan.functions) first.graph ∙ functions) (ap (λ g. g.plan.columns) first.graph ∙ columns)
      (subst (λ g. IsSound g.plan) (sym first.graph) sound) apart one.keeps.agrees one.hears in
      record {
        keeps = record {
          agrees = two.keeps.agrees;
          item = two.keeps.item ∙ one.keeps.item;
          listed = λ p.
              let m = one.keeps.listed p in
              let n = two.keeps.listed p in
              let s = count_append p (made_of first.more) (made_of second.more) in
              let t = ap (count p) (made_both first.more second.more) in
              omega (arith, m, n, s, t);
        };
        hears = two.hears;
      };
}

-- ---- all of a row

kept_at : (p : ℕ → Bool) (x : ℕ) (b : Bool) → p x ≡ b → (xs : List ℕ) (k : ℕ) → p k ≡ true → ((i : ℕ) × (slice_get xs i ≡ Some k)) ⊎ (x ≡ k) → (i : ℕ) × (slice_get (cond b (x ∷ xs) xs) i ≡ Some k)
kept_at p x true e xs k h (inl a) = (suc a.0, a.1)
kept_at p x true e xs k h (inr s) = (0, ap (λ z. Some z) s)
kept_at p x false e xs k h (inl a) = a
kept_at p x false e xs k h (inr s) = let bad : true ≡ false = sym h ∙ ap p (sym s) ∙ e in absurd (cc)

here_or : (from k : ℕ) (goal : Type 0) → from ≤ k → (suc from ≤ k → goal) → (from ≡ k) ⊎ (from ≡ k → ⊥) → goal ⊎ (from ≡ k)
here_or from k goal l more (inl e) = inr e
here_or from k goal l more (inr other) = inl (more (above from k l other))
  where
    above : (a b : ℕ) → a ≤ b → (a ≡ b → ⊥) → suc a ≤ b
    above a b le differs = omega (arith, le, differs)

-- a number that passes stands among those that do
pub among_counted : (p : ℕ → Bool) (n from k : ℕ) → p k ≡ true → from ≤ k → k < from + n → (i : ℕ) × (slice_get (filter p (counted from n)) i ≡ Some k)
among_counted p zero from k h l r = absurd (omega (arith, l, r))
among_counted p (suc n) from k h l r =
    kept_at p from (p from) refl (filter p (counted (suc from) n)) k h (here_or from k ((i : ℕ) × (slice_get (filter p (counted (suc from) n)) i ≡ Some k)) l (λ le. among_counted p n (suc from) k h le (omega (arith, r))) (cases_eq from k))

passes_by : (p : ℕ → Bool) (x : ℕ) (b : Bool) → p x ≡ b → (xs : List ℕ) (i k : ℕ) → slice_get (cond b (x ∷ xs) xs) i ≡ Some k → ((j : ℕ) → slice_get xs j ≡ Some k → p k ≡ true) → p k ≡ true
passes_by p x true e xs zero k at more = let s : x ≡ k = cc in ap p (sym s) ∙ e
passes_by p x true e xs (suc i) k at more = more i at
passes_by p x false e xs i k at more = more i at

passes : (p : ℕ → Bool) (xs : List ℕ) (i k : ℕ) → slice_get (filter p xs) i ≡ Some k → p k ≡ true
passes p [] i k at = absurd (cc)
passes p (x ∷ xs) i k at = passes_by p x (p x) refl (filter p xs) i k at (λ j e. passes p xs j k e)

pub within_get : {X : Type 0} (xs : List X) (i : ℕ) (x : X) → slice_get xs i ≡ Some x → i < length xs
within_get [] i x at = absurd (cc)
within_get (y ∷ ys) zero x at = omega arith
within_get (y ∷ ys) (suc i) x at = let l = within_get ys i x at in omega (arith, l)

module _ (row now : RowCalls) (items : List ℕ) (graph : now.graph ≡ row.graph) (are : items ≡ ready_of row.graph) where
  pub ready_at : (i k : ℕ) → slice_get items i ≡ Some k → is_ready now.graph k ≡ true
  ready_at i k at = ap (λ g. is_ready g k) graph ∙ passes (is_ready row.graph) (counted 0 (length row.graph.plan.functions)) i k (ap (λ xs. slice_get xs i) (sym are) ∙ at)

  -- once all that are ready are listed
  pub all_listed : ((place k : ℕ) → place < length items → slice_get items place ≡ Some k → (attempt_of now k).listed ≡ true) → AreListed now
  all_listed done k l = by (is_ready now.graph k) refl
    where
      below : length now.graph.plan.functions ≡ length row.graph.plan.functions → k < 0 + length row.graph.plan.functions
      below e = omega (arith, e, l)

      by : (b : Bool) → is_ready now.graph k ≡ b → (b && not (attempt_of now k).listed) ≡ false
      by false e = refl
      by true e =
          let ready : is_ready row.graph k ≡ true = ap (λ g. is_ready g k) (sym graph) ∙ e in
          let a = among_counted (is_ready row.graph) (length row.graph.plan.functions) 0 k ready (omega arith) (below (ap (λ g. length g.plan.functions) graph)) in
          let at : slice_get items a.0 ≡ Some k = ap (λ xs. slice_get xs a.0) are ∙ a.1 in
          ap not (done a.0 k (within_get items a.0 k at) at)

-- the next of them is listed
pub done_more : (frame : CallFrame) (scan : ℕ) (key : Key) (row now next : RowCalls) (items : List ℕ) (index : ℕ) (xs ys : List Wanted) → now.graph ≡ row.graph → items ≡ ready_of row.graph → RowLists frame scan key now next xs ys
    → ((k : ℕ) → slice_get items index ≡ Some k → (attempt_of next k).listed ≡ true) → ((place k : ℕ) → place < index → slice_get items place ≡ Some k → (attempt_of now k).listed ≡ true)
    → (place k : ℕ) → place < index + 1 → slice_get items place ≡ Some k → (attempt_of next k).listed ≡ true
done_more frame scan key row now next items index xs ys graph are lists here done place k l at = by (cases_eq place index)
  where
    by : (place ≡ index) ⊎ (place ≡ index → ⊥) → (attempt_of next k).listed ≡ true
    by (inl e) = here k (ap (slice_get items) (sym e) ∙ at)
    by (inr other) =
        let before : (attempt_of now k).listed ≡ true = done place k (omega (arith, l, other)) at in
        ap (λ a. a.listed) (lists.stays k (and_both (is_ready now.graph k) (attempt_of now k).listed (ready_at row now items graph are place k at) before)) ∙ before

-- a row says that all are listed
pub said_listed : (frame : CallFrame) (scan : ℕ) (key : Key) (old new : RowCalls) (before after : List Wanted) → AreListed new → RowLists frame scan key old new before after
    → RowLists frame scan key old (record new { all_listed = true }) before after
said_listed frame scan key old new before after all lists = record {
  more = lists.more;
  grows = lists.grows;
  graph = lists.graph;
  sound = record { room = lists.sound.room; rules = lists.sound.rules; settled = lists.sound.settled; listed = λ said. all };
  stays = lists.stays;
  differs = lists.differs;
  jobs = λ place w at.
      let job = lists.jobs place w at in
      record {
        key_is = job.key_is;
        scan_is = job.scan_is;
        listed = job.listed;
        call = record { seat_is = job.call.seat_is; asked = job.call.asked; attempt = job.call.attempt; due = job.call.due; connection = job.call.connection; version = job.call.version };
      };
  keeps = λ table request answers name functions columns sound apart agrees hears.
      let goes = lists.keeps table request answers name functions columns sound apart agrees hears in
      record { keeps = goes.keeps; hears = goes.hears };
}
