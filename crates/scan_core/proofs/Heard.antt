-- A piece of a call as a step of the scan's state.
use Rattle.std.proofs.Common.{◌≡◌, ◌≤◌, ◌<◌, ◌+◌, ◌-◌, ◌==◌, ◌||◌, not, nat_lt, ℕ, Bool, true, false, List, [], ◌∷◌, ◌++◌, length, take, drop, Option, Some, None, is_some, if◌then◌else◌, refl, sym, ap, subst, ◌∙◌, arith, append_assoc, inl, inr, add-zero}
use Rattle.std.proofs.lemmas.List.{take-append-le, length-append, length-drop, append-nil}
use Rattle.std.proofs.lemmas.Bool.Decides.{nat_tests}
use Rattle.std.proofs.lemmas.List.{drop-append-le}
use Rattle.sp_value.specs.declared.cell.Cell.{Cell}
use Rattle.sp_model.specs.declared.call.CallKey.{CallKey}
use Rattle.sp_model.specs.declared.call.Ending.{Ending}
use Rattle.sp_model.specs.declared.call.Piece.{Piece}
use Rattle.sp_model.specs.declared.call.Piece.TheVariants as piece
use Rattle.sp_model.specs.declared.outcome.WalkState.{WalkState}
use Rattle.sp_world.specs.Pieces.{IsSoundPiece}
use Rattle.row_stream.specs.Streams.{Stream, restarted, fed, is_out, place_of}
use Rattle.row_flight.specs.Flying.{rows_of, IsOf}
use Rattle.scan_laws.specs.Scans.{items_of}
use Rattle.scan_laws.specs.Steps.{item_came, parent_came}
use Rattle.scan_core.specs.Calls.{source_of, entry_view, inner_of, inner_view, outer_of, outer_view}
use Rattle.scan_core.specs.Courses.{end_view, undecided, state_of, table_of, IsCourse, IsItemsCall, IsParentsCall, IsOpenCall}
use Rattle.scan_core.specs.Hearing.{anew, open_heard, items_heard, handed_on, MayBeginAnew, inner_heard, InnerTakes, outer_heard, OuterTakes}
use Rattle.scan_core.specs.declared.calls.ItemsCall.{ItemsCall}
use Rattle.scan_core.specs.declared.calls.OpenCall.{OpenCall}
use Rattle.scan_core.specs.declared.calls.ParentsCall.{ParentsCall}
use Rattle.scan_core.specs.declared.course.Course.{Course}
use Rattle.scan_core.specs.declared.scope.ScanScope.{ScanScope}

-- ---- a stream

by_call : (b : Bool) (s : Stream) → (if b then restarted s else s).call ≡ s.call
by_call true s = refl
by_call false s = refl

by_have : (b : Bool) (s : Stream) → (if b then restarted s else s).have ≡ s.have
by_have true s = refl
by_have false s = refl

by_waiting : (b : Bool) (s : Stream) → (if b then restarted s else s).waiting ≡ s.waiting
by_waiting true s = refl
by_waiting false s = refl

by_ending : (b : Bool) (s : Stream) → (if b then restarted s else s).ending ≡ s.ending
by_ending true s = refl
by_ending false s = refl

by_next : (b : Bool) (s : Stream) → s.next ≤ s.have → (if b then restarted s else s).next ≤ s.have
by_next true s le = omega arith
by_next false s le = le

fed_item : (a : Stream) (place : ℕ) (x : Cell) (lt : Bool) → nat_lt place a.have ≡ lt → fed a (piece.Item place x)
    ≡ (if lt then record { call = a.call; next = place + 1; have = a.have; waiting = a.waiting; ending = a.ending } else record { call = a.call; next = place + 1; have = a.have + 1; waiting = a.waiting ++ x ∷ []; ending = a.ending })
fed_item a place x lt e = ap (λ b. if b then record { call = a.call; next = place + 1; have = a.have; waiting = a.waiting; ending = a.ending } else record { call = a.call; next = place + 1; have = a.have + 1; waiting = a.waiting ++ x ∷ []; ending = a.ending }) e

-- a piece that isn't out of place is the next one
in_place : (a : Stream) (p : Piece) → a.ending ≡ None → (is_out a p ≡ true → ⊥) → place_of p ≡ a.next
in_place a p none not_out = by_test (place_of p == a.next) refl where
  by_test : (b : Bool) → place_of p == a.next ≡ b → place_of p ≡ a.next
  by_test true e = grind (arith, nat_tests, e)
  by_test false e = absurd (not_out (ap (λ z. not z || is_some a.ending) e))

-- ---- the inner call

came_so_far : {X : Type 0} (scope : ScanScope) (s : Course X) (c : ItemsCall X) → IsCourse scope s → s.items ≡ Some c → c.call.taken + length (drop s.before (undecided s)) ≡ c.call.stream.have
came_so_far scope s c form is =
    let f = form.items c is in
    let d : length (drop s.before (undecided s)) ≡ length (undecided s) - s.before = length-drop s.before (undecided s) in
    let h : s.before + c.call.stream.have ≡ c.call.taken + length (undecided s) = f.have in
    let le : s.before ≤ length (undecided s) = form.front in
    omega arith

-- what is fed to it, with the ending e afterwards and the items that are handed on
module _ {X : Type 0} (scope : ScanScope) (s t : Course X) (c d : ItemsCall X) (p : Piece) (form : IsCourse scope s) (is : s.items ≡ Some c) (so : t.items ≡ Some d)
    (parents : t.parents ≡ s.parents) (before : t.before ≡ s.before) (flight : t.flight ≡ s.flight) (walk : t.walk ≡ s.walk) (end : t.end ≡ s.end) where
  heard_inner : (e : Option Ending) → d.call.stream.call ≡ c.call.stream.call → d.call.listed ≡ c.call.listed → d.entered ≡ c.entered → d.call.taken ≡ c.call.taken → d.call.stream.ending ≡ e
      → inner_view scope.items t.walk t.items ≡ Some (record (inner_of scope.items s.walk c) { ending = e })
  heard_inner e call listed entered taken ending =
      ap (inner_view scope.items t.walk) so ∙ (λ i. Some (record {
        asked = (call i).call;
        source = source_of scope.items;
        attempt = (call i).attempt;
        listed = listed i;
        entered = entry_view (walk i) (entered i);
        decided = taken i;
        ending = ending i;
      }))

  -- no item is handed on
  pub heard_none : (e : Option Ending) → d.call.stream.call ≡ c.call.stream.call → d.call.listed ≡ c.call.listed → d.entered ≡ c.entered → d.call.taken ≡ c.call.taken → d.call.stream.ending ≡ e → t.waiting.items ≡ s.waiting.items
      → state_of scope t ≡ record (state_of scope s) { inner = Some (record (inner_of scope.items s.walk c) { ending = e }) }
  heard_none e call listed entered taken ending waiting =
      let inner = heard_inner e call listed entered taken ending in
      λ i. record {
        outer = outer_view (parents i);
        inner = inner i;
        first = take (before i) (items_of (rows_of (flight i)) ++ waiting i);
        inside = drop (before i) (items_of (rows_of (flight i)) ++ waiting i);
        flight = rows_of (flight i);
        waiting = waiting i;
        now = walk i;
        end = end_view (walk i) (end i);
      }

  -- an item is
  pub heard_one : (x : Cell) → d.call.stream.call ≡ c.call.stream.call → d.call.listed ≡ c.call.listed → d.entered ≡ c.entered → d.call.taken ≡ c.call.taken → d.call.stream.ending ≡ c.call.stream.ending → t.waiting.items ≡ s.waiting.items ++ x ∷ []
      → state_of scope t ≡ item_came (state_of scope s) x
  heard_one x call listed entered taken ending waiting =
      let inner : inner_view scope.items t.walk t.items ≡ inner_view scope.items s.walk s.items = heard_inner c.call.stream.ending call listed entered taken ending ∙ sym (ap (inner_view scope.items s.walk) is) in
      let all : undecided t ≡ undecided s ++ x ∷ [] =
      ap (λ f. items_of (rows_of f) ++ t.waiting.items) flight ∙ ap (λ w. items_of (rows_of s.flight) ++ w) waiting ∙ sym (append_assoc (items_of (rows_of s.flight)) s.waiting.items (x ∷ [])) in
      let front : take t.before (undecided t) ≡ take s.before (undecided s) = ap (λ n. take n (undecided t)) before ∙ ap (take s.before) all ∙ take-append-le s.before (undecided s) (x ∷ []) form.front in
      let inside : drop t.before (undecided t) ≡ drop s.before (undecided s) ++ x ∷ [] = ap (λ n. drop n (undecided t)) before ∙ ap (drop s.before) all ∙ drop-append-le s.before (undecided s) (x ∷ []) form.front in
      λ i. record {
        outer = outer_view (parents i);
        inner = inner i;
        first = front i;
        inside = inside i;
        flight = rows_of (flight i);
        waiting = waiting i;
        now = walk i;
        end = end_view (walk i) (end i);
      }

  -- the fields go on fitting together
  pub heard_form : IsOpenCall scope d.call → d.entered ≡ c.entered → d.call.taken ≡ c.call.taken → (n : ℕ) → d.call.stream.have ≡ c.call.stream.have + n → length t.waiting.items ≡ length s.waiting.items + n → IsCourse scope t
  heard_form call entered taken n have waiting =
      let f = form.items c is in
      let old : length (undecided s) ≡ length (items_of (rows_of s.flight)) + length s.waiting.items = length-append (items_of (rows_of s.flight)) s.waiting.items in
      let new : length (undecided t) ≡ length (items_of (rows_of t.flight)) + length t.waiting.items = length-append (items_of (rows_of t.flight)) t.waiting.items in
      let rows : length (items_of (rows_of t.flight)) ≡ length (items_of (rows_of s.flight)) = ap (λ z. length (items_of (rows_of z))) flight in
      let count : length (undecided t) ≡ length (undecided s) + n = omega arith in
      let front : s.before ≤ length (undecided s) = form.front in
      let h : s.before + c.call.stream.have ≡ c.call.taken + length (undecided s) = f.have in
      record {
        front = omega arith;
        closed = λ none. let x : Some d ≡ None = sym so ∙ none in absurd (cc);
        items = λ i w.
            let one : Some d ≡ Some i = sym so ∙ w in
            let same : d ≡ i = cc in
            subst (λ (z : ItemsCall X). IsItemsCall scope t.before (length (undecided t)) (length t.walk.rows) z) same (record {
              call = call;
              have = omega arith;
              entered = λ e z. subst (λ (y : WalkState). e.rows ≤ length y.rows) (sym walk) (f.entered e (sym entered ∙ z));
            });
        parents = λ o w. form.parents o (sym parents ∙ w);
        flight = subst (λ z. IsOf (table_of scope) scope.request z) (sym flight) form.flight;
        window = ap (λ z. z.window) flight ∙ form.window;
        room = subst (λ z. length z.rows ≤ scope.window) (sym flight) form.room;
        few = form.few;
      }

-- the state after a piece that was taken in
heard_item : {X : Type 0} (scope : ScanScope) (s t : Course X) (c : ItemsCall X) (place : ℕ) (x : Cell) (tick : ℕ) (lt : Bool) → nat_lt place (anew c.call.stream (piece.Item place x)).have ≡ lt → IsCourse scope s → s.items ≡ Some c
    → t.items ≡ Some (items_heard c (piece.Item place x) tick) → t.parents ≡ s.parents → t.before ≡ s.before → t.flight ≡ s.flight → t.walk ≡ s.walk → t.end ≡ s.end → t.waiting.items ≡ s.waiting.items ++ handed_on c.call.stream (piece.Item place x)
    → state_of scope t ≡ (if lt then state_of scope s else item_came (state_of scope s) x)
heard_item scope s t c place x tick true e form is so parents before flight walk end waiting =
    let a : Stream = anew c.call.stream (piece.Item place x) in
    let f : fed a (piece.Item place x) ≡ record { call = a.call; next = place + 1; have = a.have; waiting = a.waiting; ending = a.ending } = fed_item a place x true e in
    heard_none scope s t c (items_heard c (piece.Item place x) tick) (piece.Item place x) form is so parents before flight walk end c.call.stream.ending
    (ap (λ z. z.call) f ∙ by_call (place == 0) c.call.stream) refl refl refl (ap (λ z. z.ending) f ∙ by_ending (place == 0) c.call.stream)
    (waiting ∙ ap (λ w. s.waiting.items ++ w) (ap (λ z. z.waiting) f ∙ by_waiting (place == 0) c.call.stream ∙ (form.items c is).call.drained) ∙ append-nil s.waiting.items)
    ∙ ap (λ j. record (state_of scope s) { inner = j }) (sym (ap (inner_view scope.items s.walk) is))
heard_item scope s t c place x tick false e form is so parents before flight walk end waiting =
    let a : Stream = anew c.call.stream (piece.Item place x) in
    let f : fed a (piece.Item place x) ≡ record { call = a.call; next = place + 1; have = a.have + 1; waiting = a.waiting ++ x ∷ []; ending = a.ending } = fed_item a place x false e in
    heard_one scope s t c (items_heard c (piece.Item place x) tick) (piece.Item place x) form is so parents before flight walk end x
    (ap (λ z. z.call) f ∙ by_call (place == 0) c.call.stream) refl refl refl (ap (λ z. z.ending) f ∙ by_ending (place == 0) c.call.stream)
    (waiting ∙ ap (λ w. s.waiting.items ++ w) (ap (λ z. z.waiting) f ∙ ap (λ w. w ++ x ∷ []) (by_waiting (place == 0) c.call.stream ∙ (form.items c is).call.drained)))

pub heard_state : {X : Type 0} (scope : ScanScope) (s t : Course X) (c : ItemsCall X) (p : Piece) (tick : ℕ) → IsCourse scope s → s.items ≡ Some c → t.items ≡ Some (items_heard c p tick) → t.parents ≡ s.parents → t.before ≡ s.before → t.flight ≡ s.flight
    → t.walk ≡ s.walk → t.end ≡ s.end → t.waiting.items ≡ s.waiting.items ++ handed_on c.call.stream p → (state_of scope t ≡ inner_heard (state_of scope s) (inner_of scope.items s.walk c) p)
heard_state scope s t c (piece.Item place x) tick form is so parents before flight walk end waiting =
    heard_item scope s t c place x tick (nat_lt place (anew c.call.stream (piece.Item place x)).have) refl form is so parents before flight walk end waiting
    ∙ ap (λ n. if nat_lt place n then state_of scope s else item_came (state_of scope s) x) (by_have (place == 0) c.call.stream ∙ sym (came_so_far scope s c form is))
heard_state scope s t c (piece.Ending count e) tick form is so parents before flight walk end waiting =
    heard_none scope s t c (items_heard c (piece.Ending count e) tick) (piece.Ending count e) form is so parents before flight walk end (Some e) (by_call (count == 0) c.call.stream) refl refl refl refl
    (waiting ∙ ap (λ w. s.waiting.items ++ w) (by_waiting (count == 0) c.call.stream ∙ (form.items c is).call.drained) ∙ append-nil s.waiting.items)

-- no item was left out before it
pub heard_takes : {X : Type 0} (scope : ScanScope) (s : Course X) (c : ItemsCall X) (p : Piece) → IsCourse scope s → s.items ≡ Some c → c.call.listed ≡ true → c.call.stream.ending ≡ None → (is_out (anew c.call.stream p) p ≡ true → ⊥) → InnerTakes (state_of scope s) (inner_of scope.items s.walk c) p
heard_takes scope s c p form is listed none not_out =
    let place : place_of p ≡ (anew c.call.stream p).next = in_place (anew c.call.stream p) p (by_ending (place_of p == 0) c.call.stream ∙ none) not_out in
    let within : (anew c.call.stream p).next ≤ c.call.stream.have = by_next (place_of p == 0) c.call.stream (form.items c is).call.next in
    let count : c.call.taken + length (drop s.before (undecided s)) ≡ c.call.stream.have = came_so_far scope s c form is in
    record { listed = listed; going = none; next = omega arith }

-- ---- the fields go on fitting together

open_item : {X : Type 0} (scope : ScanScope) (c : OpenCall X) (place : ℕ) (x : Cell) (tick : ℕ) (lt : Bool) → nat_lt place (anew c.stream (piece.Item place x)).have ≡ lt → IsOpenCall scope c → place ≡ (anew c.stream (piece.Item place x)).next → place < 999999
    → IsOpenCall scope (open_heard c (piece.Item place x) tick) × ((open_heard c (piece.Item place x) tick).stream.have ≡ c.stream.have + length (handed_on c.stream (piece.Item place x)))
open_item scope c place x tick true e is at below =
    let a : Stream = anew c.stream (piece.Item place x) in
    let f : fed a (piece.Item place x) ≡ record { call = a.call; next = place + 1; have = a.have; waiting = a.waiting; ending = a.ending } = fed_item a place x true e in
    let call : (fed a (piece.Item place x)).call ≡ c.stream.call = ap (λ z. z.call) f ∙ by_call (place == 0) c.stream in
    let have : (fed a (piece.Item place x)).have ≡ c.stream.have = ap (λ z. z.have) f ∙ by_have (place == 0) c.stream in
    let next : (fed a (piece.Item place x)).next ≡ place + 1 = ap (λ z. z.next) f in
    let within : place < c.stream.have = grind (arith, nat_tests, e, by_have (place == 0) c.stream) in
    let few : c.stream.have ≤ 999999 = is.few in
    let none : length (handed_on c.stream (piece.Item place x)) ≡ 0 = ap length (ap (λ z. z.waiting) f ∙ by_waiting (place == 0) c.stream ∙ is.drained) in (
      record {
        connection = ap (λ k. k.connection) call ∙ is.connection;
        version = ap (λ k. k.version) call ∙ is.version;
        attempt = subst (λ (k : CallKey). 1 ≤ k.attempt) (sym call) is.attempt;
        next = omega arith;
        few = omega arith;
        drained = refl;
      },
      omega arith,
    )
open_item scope c place x tick false e is at below =
    let a : Stream = anew c.stream (piece.Item place x) in
    let f : fed a (piece.Item place x) ≡ record { call = a.call; next = place + 1; have = a.have + 1; waiting = a.waiting ++ x ∷ []; ending = a.ending } = fed_item a place x false e in
    let call : (fed a (piece.Item place x)).call ≡ c.stream.call = ap (λ z. z.call) f ∙ by_call (place == 0) c.stream in
    let same : a.have ≡ c.stream.have = by_have (place == 0) c.stream in
    let have : (fed a (piece.Item place x)).have ≡ a.have + 1 = ap (λ z. z.have) f in
    let next : (fed a (piece.Item place x)).next ≡ place + 1 = ap (λ z. z.next) f in
    let within : a.next ≤ c.stream.have = by_next (place == 0) c.stream is.next in
    let past : a.have ≤ place = grind (arith, nat_tests, e) in
    let one : length (handed_on c.stream (piece.Item place x)) ≡ 1 = ap length (ap (λ z. z.waiting) f ∙ ap (λ w. w ++ x ∷ []) (by_waiting (place == 0) c.stream ∙ is.drained)) in (
      record {
        connection = ap (λ k. k.connection) call ∙ is.connection;
        version = ap (λ k. k.version) call ∙ is.version;
        attempt = subst (λ (k : CallKey). 1 ≤ k.attempt) (sym call) is.attempt;
        next = omega arith;
        few = omega arith;
        drained = refl;
      },
      omega arith,
    )

open_anew : {X : Type 0} (scope : ScanScope) (c : OpenCall X) (b : Bool) → IsOpenCall scope c → IsOpenCall scope (record c { stream = if b then restarted c.stream else c.stream })
open_anew scope c true is = record { connection = is.connection; version = is.version; attempt = is.attempt; next = omega arith; few = is.few; drained = is.drained }
open_anew scope c false is = is

pub open_form : {X : Type 0} (scope : ScanScope) (c : OpenCall X) (p : Piece) (tick : ℕ) → IsOpenCall scope c → c.stream.ending ≡ None → IsSoundPiece p → (is_out (anew c.stream p) p ≡ true → ⊥)
    → IsOpenCall scope (open_heard c p tick) × ((open_heard c p tick).stream.have ≡ c.stream.have + length (handed_on c.stream p))
open_form scope c (piece.Item place x) tick is none sound not_out =
    open_item scope c place x tick (nat_lt place (anew c.stream (piece.Item place x)).have) refl is (in_place (anew c.stream (piece.Item place x)) (piece.Item place x) (by_ending (place == 0) c.stream ∙ none) not_out) sound.1
open_form scope c (piece.Ending count e) tick is none sound not_out =
    let o = open_anew scope c (count == 0) is in
    let have : (anew c.stream (piece.Ending count e)).have ≡ c.stream.have = by_have (count == 0) c.stream in
    let waiting : length (anew c.stream (piece.Ending count e)).waiting ≡ 0 = ap length (by_waiting (count == 0) c.stream ∙ is.drained) in
    (record { connection = o.connection; version = o.version; attempt = o.attempt; next = o.next; few = o.few; drained = refl }, omega arith)

pub used_form : {X : Type 0} (scope : ScanScope) (s t : Course X) (c : ItemsCall X) (p : Piece) (tick : ℕ) → IsCourse scope s → s.items ≡ Some c → t.items ≡ Some (items_heard c p tick) → t.parents ≡ s.parents → t.before ≡ s.before → t.flight ≡ s.flight
    → t.walk ≡ s.walk → t.end ≡ s.end → t.waiting.items ≡ s.waiting.items ++ handed_on c.call.stream p → c.call.stream.ending ≡ None → IsSoundPiece p → (is_out (anew c.call.stream p) p ≡ true → ⊥) → IsCourse scope t
used_form scope s t c p tick form is so parents before flight walk end waiting none sound not_out =
    let o = open_form scope c.call p tick (form.items c is).call none sound not_out in
    heard_form scope s t c (items_heard c p tick) p form is so parents before flight walk end o.0 refl refl (length (handed_on c.call.stream p)) o.1
    (ap length waiting ∙ length-append s.waiting.items (handed_on c.call.stream p))

-- a piece that wasn't taken in
pub kept_so : {X : Type 0} (scope : ScanScope) (s t : Course X) (c d : ItemsCall X) (p : Piece) → IsCourse scope s → s.items ≡ Some c → t.items ≡ Some d → t.parents ≡ s.parents → t.before ≡ s.before → t.flight ≡ s.flight
    → t.walk ≡ s.walk → t.end ≡ s.end → t.waiting.items ≡ s.waiting.items → d.entered ≡ c.entered → MayBeginAnew c.call p d.call → (state_of scope t ≡ state_of scope s) × IsCourse scope t
kept_so scope s t c d p form is so parents before flight walk end waiting entered (inl same) = (
  heard_none scope s t c d p form is so parents before flight walk end c.call.stream.ending (ap (λ z. z.stream.call) same) (ap (λ z. z.listed) same) entered (ap (λ z. z.taken) same) (ap (λ z. z.stream.ending) same) waiting
      ∙ ap (λ j. record (state_of scope s) { inner = j }) (sym (ap (inner_view scope.items s.walk) is)),
  heard_form scope s t c d p form is so parents before flight walk end (subst (λ z. IsOpenCall scope z) (sym same) (form.items c is).call) entered (ap (λ z. z.taken) same) 0
      (ap (λ z. z.stream.have) same ∙ sym (add-zero c.call.stream.have)) (ap length waiting ∙ sym (add-zero (length s.waiting.items))),
)
kept_so scope s t c d p form is so parents before flight walk end waiting entered (inr again) =
    let b : Bool = place_of p == 0 in (
      heard_none scope s t c d p form is so parents before flight walk end c.call.stream.ending (ap (λ z. z.stream.call) again ∙ by_call (place_of p == 0) c.call.stream) (ap (λ z. z.listed) again) entered (ap (λ z. z.taken) again)
          (ap (λ z. z.stream.ending) again ∙ by_ending (place_of p == 0) c.call.stream) waiting
          ∙ ap (λ j. record (state_of scope s) { inner = j }) (sym (ap (inner_view scope.items s.walk) is)),
      heard_form scope s t c d p form is so parents before flight walk end (subst (λ z. IsOpenCall scope z) (sym again) (open_anew scope c.call (place_of p == 0) (form.items c is).call)) entered (ap (λ z. z.taken) again) 0
          (ap (λ z. z.stream.have) again ∙ by_have (place_of p == 0) c.call.stream ∙ sym (add-zero c.call.stream.have)) (ap length waiting ∙ sym (add-zero (length s.waiting.items))),
    )

-- ---- the parents call

heard_outer : {X : Type 0} (scope : ScanScope) (s : Course X) (c d : ParentsCall X) (e : Option Ending) (waiting : List Cell) → d.call.stream.call ≡ c.call.stream.call → d.call.listed ≡ c.call.listed → d.call.taken ≡ c.call.taken → d.call.stream.ending ≡ e → d.waiting.items ≡ waiting
    → state_of scope (record s { parents = Some d }) ≡ record (state_of scope s) { outer = Some (record (outer_of c) { ending = e; waiting = waiting }) }
heard_outer scope s c d e waiting call listed taken ending items =
    λ i. record (state_of scope s) { outer = Some (record { attempt = (call i).attempt; listed = listed i; walked = taken i; waiting = items i; ending = ending i }) }

same_outer : {X : Type 0} (scope : ScanScope) (s : Course X) (c : ParentsCall X) → s.parents ≡ Some c → record (state_of scope s) { outer = Some (outer_of c) } ≡ state_of scope s
same_outer scope s c is = ap (λ o. record (state_of scope s) { outer = o }) (sym (ap outer_view is))

outer_item : {X : Type 0} (scope : ScanScope) (s : Course X) (c d : ParentsCall X) (place : ℕ) (x : Cell) (tick : ℕ) (lt : Bool) → nat_lt place (anew c.call.stream (piece.Item place x)).have ≡ lt → s.parents ≡ Some c → c.call.stream.waiting ≡ []
    → d.call ≡ open_heard c.call (piece.Item place x) tick → d.waiting.items ≡ c.waiting.items ++ handed_on c.call.stream (piece.Item place x)
    → state_of scope (record s { parents = Some d }) ≡ (if lt then state_of scope s else parent_came (state_of scope s) (outer_of c) x)
outer_item scope s c d place x tick true e is drained call waiting =
    let a : Stream = anew c.call.stream (piece.Item place x) in
    let f : fed a (piece.Item place x) ≡ record { call = a.call; next = place + 1; have = a.have; waiting = a.waiting; ending = a.ending } = fed_item a place x true e in
    heard_outer scope s c d c.call.stream.ending c.waiting.items (ap (λ z. z.stream.call) call ∙ ap (λ z. z.call) f ∙ by_call (place == 0) c.call.stream) (ap (λ z. z.listed) call) (ap (λ z. z.taken) call)
    (ap (λ z. z.stream.ending) call ∙ ap (λ z. z.ending) f ∙ by_ending (place == 0) c.call.stream)
    (waiting ∙ ap (λ w. c.waiting.items ++ w) (ap (λ z. z.waiting) f ∙ by_waiting (place == 0) c.call.stream ∙ drained) ∙ append-nil c.waiting.items)
    ∙ same_outer scope s c is
outer_item scope s c d place x tick false e is drained call waiting =
    let a : Stream = anew c.call.stream (piece.Item place x) in
    let f : fed a (piece.Item place x) ≡ record { call = a.call; next = place + 1; have = a.have + 1; waiting = a.waiting ++ x ∷ []; ending = a.ending } = fed_item a place x false e in
    heard_outer scope s c d c.call.stream.ending (c.waiting.items ++ (x ∷ [])) (ap (λ z. z.stream.call) call ∙ ap (λ z. z.call) f ∙ by_call (place == 0) c.call.stream) (ap (λ z. z.listed) call) (ap (λ z. z.taken) call)
    (ap (λ z. z.stream.ending) call ∙ ap (λ z. z.ending) f ∙ by_ending (place == 0) c.call.stream)
    (waiting ∙ ap (λ w. c.waiting.items ++ w) (ap (λ z. z.waiting) f ∙ ap (λ w. w ++ x ∷ []) (by_waiting (place == 0) c.call.stream ∙ drained)))

pub outer_state : {X : Type 0} (scope : ScanScope) (s : Course X) (c d : ParentsCall X) (p : Piece) (tick : ℕ) → IsParentsCall scope c → s.parents ≡ Some c → d.call ≡ open_heard c.call p tick → d.waiting.items ≡ c.waiting.items ++ handed_on c.call.stream p
    → state_of scope (record s { parents = Some d }) ≡ outer_heard (state_of scope s) (outer_of c) p
outer_state scope s c d (piece.Item place x) tick form is call waiting =
    outer_item scope s c d place x tick (nat_lt place (anew c.call.stream (piece.Item place x)).have) refl is form.call.drained call waiting
    ∙ ap (λ n. if nat_lt place n then state_of scope s else parent_came (state_of scope s) (outer_of c) x) (by_have (place == 0) c.call.stream ∙ form.have)
outer_state scope s c d (piece.Ending count e) tick form is call waiting =
    heard_outer scope s c d (Some e) c.waiting.items (ap (λ z. z.stream.call) call ∙ by_call (count == 0) c.call.stream) (ap (λ z. z.listed) call) (ap (λ z. z.taken) call) (ap (λ z. z.stream.ending) call)
    (waiting ∙ ap (λ w. c.waiting.items ++ w) (by_waiting (count == 0) c.call.stream ∙ form.call.drained) ∙ append-nil c.waiting.items)

pub outer_takes : {X : Type 0} (scope : ScanScope) (c : ParentsCall X) (p : Piece) → IsParentsCall scope c → c.call.listed ≡ true → c.call.stream.ending ≡ None → (is_out (anew c.call.stream p) p ≡ true → ⊥) → OuterTakes (outer_of c) p
outer_takes scope c p form listed none not_out =
    let place : place_of p ≡ (anew c.call.stream p).next = in_place (anew c.call.stream p) p (by_ending (place_of p == 0) c.call.stream ∙ none) not_out in
    let within : (anew c.call.stream p).next ≤ c.call.stream.have = by_next (place_of p == 0) c.call.stream form.call.next in
    let count : c.call.stream.have ≡ c.call.taken + length c.waiting.items = form.have in
    record { listed = listed; going = none; next = omega arith }

stream_call : (s : Stream) (p : Piece) → (fed (anew s p) p).call ≡ s.call
stream_call s (piece.Item place x) = by_lt (nat_lt place (anew s (piece.Item place x)).have) refl where
  by_lt : (lt : Bool) → nat_lt place (anew s (piece.Item place x)).have ≡ lt → (fed (anew s (piece.Item place x)) (piece.Item place x)).call ≡ s.call
  by_lt true e = ap (λ z. z.call) (fed_item (anew s (piece.Item place x)) place x true e) ∙ by_call (place == 0) s
  by_lt false e = ap (λ z. z.call) (fed_item (anew s (piece.Item place x)) place x false e) ∙ by_call (place == 0) s
stream_call s (piece.Ending count e) = by_call (count == 0) s

-- the fields fit together with the parents call as it is then
pub with_parents : {X : Type 0} (scope : ScanScope) (s : Course X) (d : ParentsCall X) → IsCourse scope s → IsParentsCall scope d → IsCourse scope (record s { parents = Some d })
with_parents scope s d form call = record {
  front = form.front;
  closed = form.closed;
  items = form.items;
  parents = λ o w. let one : Some d ≡ Some o = w in let same : d ≡ o = cc in subst (λ z. IsParentsCall scope z) same call;
  flight = form.flight;
  window = form.window;
  room = form.room;
  few = form.few;
}

pub outer_form : {X : Type 0} (scope : ScanScope) (c d : ParentsCall X) (p : Piece) (tick : ℕ) → IsParentsCall scope c → d.call ≡ open_heard c.call p tick → d.waiting.items ≡ c.waiting.items ++ handed_on c.call.stream p → c.call.stream.ending ≡ None → IsSoundPiece p
    → (is_out (anew c.call.stream p) p ≡ true → ⊥) → IsParentsCall scope d
outer_form scope c d p tick form call waiting none sound not_out =
    let o = open_form scope c.call p tick form.call none sound not_out in
    let have : d.call.stream.have ≡ c.call.stream.have + length (handed_on c.call.stream p) = ap (λ z. z.stream.have) call ∙ o.1 in
    let old : c.call.stream.have ≡ c.call.taken + length c.waiting.items = form.have in
    let taken : d.call.taken ≡ c.call.taken = ap (λ z. z.taken) call in
    let more : length d.waiting.items ≡ length c.waiting.items + length (handed_on c.call.stream p) = ap length waiting ∙ length-append c.waiting.items (handed_on c.call.stream p) in
    record {
      call = subst (λ z. IsOpenCall scope z) (sym call) o.0;
      access = form.access;
      asked = ap (λ z. z.stream.call.call) call ∙ ap (λ k. k.call) (stream_call c.call.stream p) ∙ form.asked;
      have = omega arith;
    }

-- the parents call may have begun anew
pub outer_kept : {X : Type 0} (scope : ScanScope) (s : Course X) (c d : ParentsCall X) (p : Piece) → IsParentsCall scope c → s.parents ≡ Some c → d.waiting.items ≡ c.waiting.items → MayBeginAnew c.call p d.call
    → (state_of scope (record s { parents = Some d }) ≡ state_of scope s) × IsParentsCall scope d
outer_kept scope s c d p form is waiting (inl same) = (
  heard_outer scope s c d c.call.stream.ending c.waiting.items (ap (λ z. z.stream.call) same) (ap (λ z. z.listed) same) (ap (λ z. z.taken) same) (ap (λ z. z.stream.ending) same) waiting ∙ same_outer scope s c is,
  record {
    call = subst (λ z. IsOpenCall scope z) (sym same) form.call;
    access = form.access;
    asked = ap (λ z. z.stream.call.call) same ∙ form.asked;
    have = ap (λ z. z.stream.have) same ∙ form.have ∙ ap (λ n. n + length c.waiting.items) (sym (ap (λ z. z.taken) same)) ∙ ap (λ w. d.call.taken + length w) (sym waiting);
  },
)
outer_kept scope s c d p form is waiting (inr again) = (
  heard_outer scope s c d c.call.stream.ending c.waiting.items (ap (λ z. z.stream.call) again ∙ by_call (place_of p == 0) c.call.stream) (ap (λ z. z.listed) again) (ap (λ z. z.taken) again)
      (ap (λ z. z.stream.ending) again ∙ by_ending (place_of p == 0) c.call.stream) waiting ∙ same_outer scope s c is,
  record {
    call = subst (λ z. IsOpenCall scope z) (sym again) (open_anew scope c.call (place_of p == 0) form.call);
    access = form.access;
    asked = ap (λ z. z.stream.call.call) again ∙ ap (λ k. k.call) (by_call (place_of p == 0) c.call.stream) ∙ form.asked;
    have = ap (λ z. z.stream.have) again ∙ by_have (place_of p == 0) c.call.stream ∙ form.have ∙ ap (λ n. n + length c.waiting.items) (sym (ap (λ z. z.taken) again)) ∙ ap (λ w. d.call.taken + length w) (sym waiting);
  },
)
