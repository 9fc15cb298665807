-- Steps of a scan's fields as steps of its state.
use Rattle.std.proofs.Common.{◌≡◌, ◌+◌, ◌≤◌, ◌<◌, ℕ, zero, suc, Bool, true, false, List, [], ◌∷◌, ◌++◌, length, take, drop, get_or, replicate, Option, Some, None, unwrap_or, refl, sym, ap, subst, ◌∙◌, arith, append_assoc, if◌then◌else◌}
use Rattle.std.proofs.lemmas.List.{map-append, take-append-le, length-append, length-map}
use Rattle.std.proofs.Math.Seq.{take-length}
use Rattle.sp_value.specs.declared.cell.Cell.{Cell}
use Rattle.sp_model.specs.Walk.{meets, is_reached, with_row, with_row_kept}
use Rattle.sp_model.specs.declared.call.Condition.{Condition}
use Rattle.sp_model.specs.declared.declaration.ColumnDecl.{ColumnDecl}
use Rattle.sp_model.specs.declared.outcome.Row.TheVariants.{Whole}
use Rattle.sp_model.specs.declared.outcome.Walk.{Walk}
use Rattle.sp_model.specs.declared.outcome.Walk.TheVariants.{Going, Full}
use Rattle.sp_model.specs.declared.outcome.Outcome.{Outcome}
use Rattle.sp_model.specs.declared.outcome.WalkState.{WalkState}
use Rattle.hydrate_graph.specs.Graphs.{Plan}
use Rattle.hydrate_graph.specs.Numbers.{number_of}
use Rattle.row_flight.specs.Attempts.{fresh}
use Rattle.row_flight.specs.Flying.{InFlight, Seated, rows_of, rows_in, Puts, IsOf}
use Rattle.row_flight.specs.Rows.{flight_row, begun, attempt_in, slot_of}
use Rattle.scan_laws.specs.Rests.{entry_of}
use Rattle.scan_laws.specs.Scans.{items_of}
use Rattle.scan_laws.specs.States.{FlightRow, Scan}
use Rattle.scan_laws.specs.Steps.{fresh_row, in_flight, past, first_past, inside_past, inner_past, ended_so}
use Rattle.scan_core.specs.Calls.{source_of, entry_view, inner_view, outer_view, passed, passed_front, passed_items}
use Rattle.scan_core.specs.Courses.{end_view, undecided, state_of, table_of, IsCourse, IsItemsCall, end_if, entry_now, went_on, Grows}
use Rattle.scan_core.specs.Advances.{StandsBy}
use Rattle.scan_core.specs.declared.calls.Entry.{Entry}
use Rattle.scan_core.specs.declared.calls.ItemsCall.{ItemsCall}
use Rattle.sp_model.specs.declared.outcome.Walk.TheVariants.{Failed as FailedAt}
use Rattle.sp_model.specs.declared.scan.Cause.{Cause}
use Rattle.scan_core.specs.declared.course.CourseEnd.TheVariants.{Failed}
use Rattle.scan_core.specs.declared.course.Course.{Course}
use Rattle.scan_core.specs.declared.scope.CallSource.{CallSource}
use Rattle.scan_core.specs.declared.scope.ScanScope.{ScanScope}

-- ---- a row of which nothing is known

same_everywhere : {X : Type 0} (x : X) (n k : ℕ) → get_or (replicate n x) k x ≡ x
same_everywhere x zero k = refl
same_everywhere x (suc n) zero = refl
same_everywhere x (suc n) (suc k) = same_everywhere x n k

fresh_at : (n : ℕ) (slot : Option ℕ) → attempt_in (replicate n fresh) slot ≡ fresh
fresh_at n None = refl
fresh_at n (Some slot) = same_everywhere fresh n slot

pub begun_is_fresh : (p : Plan) (item : Cell) → flight_row (begun p item) ≡ fresh_row item
begun_is_fresh p item =
    let none : Option Outcome = None in
    let known : (name : List ℕ) → get_or (replicate (length p.functions) none) (number_of p.functions name) none ≡ none = λ name. same_everywhere none (length p.functions) (number_of p.functions name) in
    let tries : (name : List ℕ) → (attempt_in (replicate p.room fresh) (slot_of p (number_of p.functions name))).tries ≡ 0 = λ name. ap (λ a. a.tries) (fresh_at p.room (slot_of p (number_of p.functions name))) in
    let listed : (name : List ℕ) → (attempt_in (replicate p.room fresh) (slot_of p (number_of p.functions name))).listed ≡ false = λ name. ap (λ a. a.listed) (fresh_at p.room (slot_of p (number_of p.functions name))) in
    λ i. record { item = item; known = λ name. known name i; tries = λ name. tries name i; listed = λ name. listed name i }

-- ---- an item goes into flight

put_rows : (f g : InFlight) (item : Cell) → Puts f g item → rows_of g ≡ rows_of f ++ (fresh_row item ∷ [])
put_rows f g item puts =
    ap rows_of puts.is ∙ map-append (λ s. flight_row s.row) f.rows (record { key = puts.key; row = begun f.plan item } ∷ [])
    ∙ ap (λ r. rows_of f ++ (r ∷ [])) (begun_is_fresh f.plan item)

items_push : (flight : List FlightRow) (item : Cell) → items_of (flight ++ (fresh_row item ∷ [])) ≡ items_of flight ++ (item ∷ [])
items_push [] item = refl
items_push (f ∷ fs) item = ap (λ xs. f.item ∷ xs) (items_push fs item)

put_undecided : {X : Type 0} (s t : Course X) (item : Cell) → s.waiting.items ≡ item ∷ t.waiting.items → Puts s.flight t.flight item → undecided t ≡ undecided s
put_undecided s t item waits puts =
    ap (λ r. items_of r ++ t.waiting.items) (put_rows s.flight t.flight item puts)
    ∙ ap (λ xs. xs ++ t.waiting.items) (items_push (rows_of s.flight) item)
    ∙ append_assoc (items_of (rows_of s.flight)) (item ∷ []) t.waiting.items
    ∙ ap (λ xs. items_of (rows_of s.flight) ++ xs) (sym waits)

pub filled_state : {X : Type 0} (scope : ScanScope) (s t : Course X) (item : Cell) → s.waiting.items ≡ item ∷ t.waiting.items → Puts s.flight t.flight item → t.parents ≡ s.parents → t.items ≡ s.items → t.before ≡ s.before → t.walk ≡ s.walk → t.end ≡ s.end
    → state_of scope t ≡ in_flight (state_of scope s) item t.waiting.items
filled_state scope s t item waits puts parents items before walk end =
    let all : undecided t ≡ undecided s = put_undecided s t item waits puts in
    let rows : rows_of t.flight ≡ rows_of s.flight ++ (fresh_row item ∷ []) = put_rows s.flight t.flight item puts in
    λ i. record {
      outer = outer_view (parents i);
      inner = inner_view scope.items (walk i) (items i);
      first = take (before i) (all i);
      inside = drop (before i) (all i);
      flight = rows i;
      waiting = t.waiting.items;
      now = walk i;
      end = end_view (walk i) (end i);
    }

-- the fields go on fitting together where the undecided items stay the same
pub form_kept : {X : Type 0} (scope : ScanScope) (s t : Course X) → undecided t ≡ undecided s → t.parents ≡ s.parents → t.items ≡ s.items → t.before ≡ s.before → t.walk ≡ s.walk → IsOf (table_of scope) scope.request t.flight → t.flight.window ≡ scope.window → length t.flight.rows ≤ scope.window
    → IsCourse scope s → IsCourse scope t
form_kept scope s t all parents items before walk of window room form = record {
  front = subst (λ n. n ≤ length (undecided t)) (sym before) (subst (λ (xs : List Cell). s.before ≤ length xs) (sym all) form.front);
  closed = λ none. before ∙ form.closed (sym items ∙ none) ∙ ap length (sym all);
  items = λ i is.
      subst (λ (n : ℕ). IsItemsCall scope n (length (undecided t)) (length t.walk.rows) i) (sym before)
      (subst (λ (xs : List Cell). IsItemsCall scope s.before (length xs) (length t.walk.rows) i) (sym all)
      (subst (λ (w : WalkState). IsItemsCall scope s.before (length (undecided s)) (length w.rows) i) (sym walk) (form.items i (sym items ∙ is))));
  parents = λ o is. form.parents o (sym parents ∙ is);
  flight = of;
  window = window;
  room = room;
  few = form.few;
}

pub put_form : {X : Type 0} (scope : ScanScope) (s t : Course X) (item : Cell) → s.waiting.items ≡ item ∷ t.waiting.items → Puts s.flight t.flight item → t.parents ≡ s.parents → t.items ≡ s.items → t.before ≡ s.before → t.walk ≡ s.walk → length (rows_of s.flight) < scope.window
    → IsCourse scope s → IsCourse scope t
put_form scope s t item waits puts parents items before walk room form =
    let count : length t.flight.rows ≡ length s.flight.rows + 1 = ap (λ f. length f.rows) puts.is ∙ length-append s.flight.rows _ in
    let shown : length (rows_of s.flight) ≡ length s.flight.rows = length-map s.flight.rows (λ s. flight_row s.row) in
    form_kept scope s t (put_undecided s t item waits puts) parents items before walk
    (subst (λ (f : InFlight). IsOf (table_of scope) scope.request f) (sym puts.is) (record { name = form.flight.name; functions = form.flight.functions; rules = form.flight.rules; columns = form.flight.columns }))
    (ap (λ f. f.window) puts.is ∙ form.window) (omega arith) form

-- ---- the first item is decided

entry_stays : (s u : WalkState) (e : Option Entry) → Grows s u → ((x : Entry) → e ≡ Some x → x.rows ≤ length s.rows) → entry_view u e ≡ entry_view s e
entry_stays s u None grows stands = refl
entry_stays s u (Some e) grows stands = ap (λ rows. Some (record { rows = rows; items = e.items; steady = e.steady })) (grows e.rows (stands e refl)).0

entered_now : (s u : WalkState) (e : Option Entry) → Grows s u → ((x : Entry) → e ≡ Some x → x.rows ≤ length s.rows)
    → entry_view u (Some (unwrap_or e (entry_now s))) ≡ Some (entry_of (entry_view s e) s)
entered_now s u None grows stands = ap (λ rows. Some (record { rows = rows; items = s.items; steady = s.steady })) ((grows (length s.rows) (omega arith)).0 ∙ take-length s.rows)
entered_now s u (Some e) grows stands = ap (λ rows. Some (record { rows = rows; items = e.items; steady = e.steady })) (grows e.rows (stands e refl)).0

inner_goes : {X : Type 0} (source : CallSource) (s u : WalkState) (n : ℕ) (c : Option (ItemsCall X)) (x : Cell) (xs : List Cell) → Grows s u
    → ((i : ItemsCall X) (e : Entry) → c ≡ Some i → i.entered ≡ Some e → e.rows ≤ length s.rows)
    → inner_view source u (passed_items n c (entry_now s)) ≡ inner_past (inner_view source s c) (take n (x ∷ xs)) s
inner_goes source s u zero None x xs grows stands = refl
inner_goes source s u zero (Some c) x xs grows stands =
    let k : c.call.taken + 1 ≡ suc c.call.taken = omega arith in
    let entered = entered_now s u c.entered grows (λ e is. stands c e refl is) in
    λ i. Some (record {
      asked = c.call.stream.call.call;
      source = source_of source;
      attempt = c.call.stream.call.attempt;
      listed = c.call.listed;
      entered = entered i;
      decided = k i;
      ending = c.call.stream.ending;
    })
inner_goes source s u (suc n) None x xs grows stands = refl
inner_goes source s u (suc n) (Some c) x xs grows stands =
    ap (λ e. Some (record {
      asked = c.call.stream.call.call;
      source = source_of source;
      attempt = c.call.stream.call.attempt;
      listed = c.call.listed;
      entered = e;
      decided = c.call.taken;
      ending = c.call.stream.ending;
    })) (entry_stays s u c.entered grows (λ e is. stands c e refl is))

first_goes : (n : ℕ) (x : Cell) (xs : List Cell) → take (passed_front n) xs ≡ first_past (take n (x ∷ xs))
first_goes zero x xs = refl
first_goes (suc n) x xs = refl

inside_goes : (n : ℕ) (x : Cell) (xs : List Cell) → drop (passed_front n) xs ≡ inside_past (take n (x ∷ xs)) (drop n (x ∷ xs))
inside_goes zero x xs = refl
inside_goes (suc n) x xs = refl

pub past_state : {X : Type 0} (scope : ScanScope) (s t : Course X) (row : FlightRow) (rows : List FlightRow) → IsCourse scope s → rows_of s.flight ≡ row ∷ rows → rows_of t.flight ≡ rows → t.waiting.items ≡ s.waiting.items → Grows s.walk t.walk
    → t.parents ≡ s.parents → t.before ≡ passed_front s.before → t.items ≡ passed_items s.before s.items (entry_now s.walk)
    → state_of scope t ≡ past (state_of scope s) rows t.walk (end_view t.walk t.end)
past_state scope s t row rows form first rest waits grows parents before items =
    let all : undecided s ≡ row.item ∷ (items_of rows ++ s.waiting.items) = ap (λ r. items_of r ++ s.waiting.items) first in
    let after : undecided t ≡ items_of rows ++ s.waiting.items = ap (λ r. items_of r ++ t.waiting.items) rest ∙ ap (λ w. items_of rows ++ w) waits in
    let front : take t.before (undecided t) ≡ first_past (take s.before (undecided s)) =
    ap (λ n. take n (undecided t)) before ∙ ap (take (passed_front s.before)) after ∙ first_goes s.before row.item (items_of rows ++ s.waiting.items) ∙ ap (λ xs. first_past (take s.before xs)) (sym all) in
    let inside : drop t.before (undecided t) ≡ inside_past (take s.before (undecided s)) (drop s.before (undecided s)) =
    ap (λ n. drop n (undecided t)) before ∙ ap (drop (passed_front s.before)) after ∙ inside_goes s.before row.item (items_of rows ++ s.waiting.items)
    ∙ ap (λ xs. inside_past (take s.before xs) (drop s.before xs)) (sym all) in
    let inner : inner_view scope.items t.walk t.items ≡ inner_past (inner_view scope.items s.walk s.items) (take s.before (undecided s)) s.walk =
    ap (inner_view scope.items t.walk) items
    ∙ inner_goes scope.items s.walk t.walk s.before s.items row.item (items_of rows ++ s.waiting.items) grows (λ i e is entered. (form.items i is).entered e entered)
    ∙ ap (λ xs. inner_past (inner_view scope.items s.walk s.items) (take s.before xs) s.walk) (sym all) in
    λ i. record {
      outer = outer_view (parents i);
      inner = inner i;
      first = front i;
      inside = inside i;
      flight = rest i;
      waiting = waits i;
      now = t.walk;
      end = end_view t.walk t.end;
    }

-- ---- the fields go on fitting together

items_pass : {X : Type 0} (scope : ScanScope) (n count kept more : ℕ) (c : Option (ItemsCall X)) (i : ItemsCall X) (entry : Entry) → ((d : ItemsCall X) → c ≡ Some d → IsItemsCall scope n (suc count) kept d) → kept ≤ more → entry.rows ≤ more
    → passed_items n c entry ≡ Some i → IsItemsCall scope (passed_front n) count more i
items_pass scope zero count kept more None i entry form le here is = absurd (cc)
items_pass {X} scope zero count kept more (Some c) i entry form le here is =
    let f = form c refl in
    let same : passed c entry ≡ i = cc in
    subst (λ (d : ItemsCall X). IsItemsCall scope 0 count more d) same (record {
      call = record { connection = f.call.connection; version = f.call.version; attempt = f.call.attempt; next = f.call.next; few = f.call.few; drained = f.call.drained };
      have = omega (arith, f.have);
      entered = entered_within c.entered f.entered;
    }) where
      entered_within : (e : Option Entry) → ((x : Entry) → e ≡ Some x → x.rows ≤ kept) → (x : Entry) → Some (unwrap_or e entry) ≡ Some x → x.rows ≤ more
      entered_within None stands x w = let k : entry ≡ x = cc in subst (λ (z : Entry). z.rows ≤ more) k here
      entered_within (Some e) stands x w = let k : e ≡ x = cc in subst (λ (z : Entry). z.rows ≤ more) k (let b : e.rows ≤ kept = stands e refl in omega arith)
items_pass scope (suc n) count kept more c i entry form le here is =
    let f = form i is in
    record {
      call = f.call;
      have = omega (arith, f.have);
      entered = λ e w. let b : e.rows ≤ kept = f.entered e w in omega arith;
    }

none_passed : {X : Type 0} (n : ℕ) (c : Option (ItemsCall X)) (entry : Entry) → passed_items n c entry ≡ None → c ≡ None
none_passed zero None entry is = refl
none_passed zero (Some c) entry is = absurd (cc)
none_passed (suc n) c entry is = is

front_passes : (n count : ℕ) → n ≤ suc count → passed_front n ≤ count
front_passes zero count le = omega arith
front_passes (suc n) count le = omega arith

all_passes : (n count : ℕ) → n ≡ suc count → passed_front n ≡ count
all_passes zero count e = absurd (omega arith)
all_passes (suc n) count e = omega arith

pub past_form : {X : Type 0} (scope : ScanScope) (s t : Course X) (row : FlightRow) (rows : List FlightRow) → IsCourse scope s → rows_of s.flight ≡ row ∷ rows → rows_of t.flight ≡ rows → t.waiting.items ≡ s.waiting.items → Grows s.walk t.walk
    → t.parents ≡ s.parents → t.before ≡ passed_front s.before → t.items ≡ passed_items s.before s.items (entry_now s.walk) → IsOf (table_of scope) scope.request t.flight → t.flight.window ≡ scope.window → length t.flight.rows ≤ scope.window → IsCourse scope t
past_form {X} scope s t row rows form first rest waits grows parents before items of window room =
    let all : undecided s ≡ row.item ∷ (items_of rows ++ s.waiting.items) = ap (λ r. items_of r ++ s.waiting.items) first in
    let after : undecided t ≡ items_of rows ++ s.waiting.items = ap (λ r. items_of r ++ t.waiting.items) rest ∙ ap (λ w. items_of rows ++ w) waits in
    let count : length (undecided s) ≡ suc (length (undecided t)) = ap length all ∙ ap (λ xs. suc (length xs)) (sym after) in
    let more : length s.walk.rows ≤ length t.walk.rows = (grows (length s.walk.rows) (omega arith)).1 in
    record {
      front = subst (λ n. n ≤ length (undecided t)) (sym before) (front_passes s.before (length (undecided t)) (subst (λ n. s.before ≤ n) count form.front));
      closed = λ none. before ∙ all_passes s.before (length (undecided t)) (form.closed (none_passed s.before s.items (entry_now s.walk) (sym items ∙ none)) ∙ count);
      items = λ i is.
          subst (λ (n : ℕ). IsItemsCall scope n (length (undecided t)) (length t.walk.rows) i) (sym before)
          (items_pass scope s.before (length (undecided t)) (length s.walk.rows) (length t.walk.rows) s.items i (entry_now s.walk)
          (λ d w. subst (λ (n : ℕ). IsItemsCall scope s.before n (length s.walk.rows) d) count (form.items d w)) more more (sym items ∙ is));
      parents = λ o is. form.parents o (sym parents ∙ is);
      flight = of;
      window = window;
      room = room;
      few = form.few;
    }

-- ---- the flight without its first row

pub rest_rows : (f g : InFlight) (row : FlightRow) (rows : List FlightRow) (s : Seated) → f ≡ record g { rows = s ∷ g.rows } → rows_of f ≡ row ∷ rows → rows_of g ≡ rows
rest_rows f g row rows s is first =
    let same : flight_row s.row ∷ rows_of g ≡ row ∷ rows = sym (ap rows_of is) ∙ first in
    cc

pub rest_of : (scope : ScanScope) (f g : InFlight) (s : Seated) → f ≡ record g { rows = s ∷ g.rows } → IsOf (table_of scope) scope.request f → IsOf (table_of scope) scope.request g
rest_of scope f g s is of = record {
  name = ap (λ x. x.frame.table) (sym is) ∙ of.name;
  functions = ap (λ x. x.plan.functions) (sym is) ∙ of.functions;
  rules = ap (λ x. x.plan.rules) (sym is) ∙ of.rules;
  columns = ap (λ x. x.plan.columns) (sym is) ∙ of.columns;
}

pub some_front : (f : InFlight) → 0 < length f.rows → (row : FlightRow) × (rows : List FlightRow) × (rows_of f ≡ row ∷ rows)
some_front f lt = some_in f.rows lt where
  some_in : (rows : List Seated) → 0 < length rows → (row : FlightRow) × (rest : List FlightRow) × (rows_in rows ≡ row ∷ rest)
  some_in [] lt = absurd (omega arith)
  some_in (s ∷ ss) lt = (flight_row s.row, rows_in ss, refl)

pub stands_so : (st t : Scan) (rows : List FlightRow) (w : Walk) (full : Bool) (u : WalkState) → w ≡ went_on full u → t ≡ past st rows u (end_view u (end_if full)) → StandsBy st rows w t
stands_so st t rows w true u is so = subst (λ (x : Walk). StandsBy st rows x t) (sym is) so
stands_so st t rows w false u is so = subst (λ (x : Walk). StandsBy st rows x t) (sym is) so

-- ---- a row is kept or left out

pub left_out : (conditions : List Condition) (columns : List ColumnDecl) (limit : Option ℕ) (cells : List Cell) (s : WalkState) (n : ℕ) → meets conditions columns cells ≡ false → n ≡ s.items + 1
    → with_row conditions columns limit (Some (Whole cells)) s ≡ Going (record { rows = s.rows; items = n; steady = s.steady })
left_out conditions columns limit cells s n fails is =
    let k : suc s.items ≡ n = omega arith in
    ap (λ b. if b then with_row_kept limit (s.rows ++ cells ∷ []) s else Going (record { rows = s.rows; items = suc s.items; steady = s.steady })) fails
    ∙ ap (λ m. Going (record { rows = s.rows; items = m; steady = s.steady })) k

kept_by : (b : Bool) (u : WalkState) → (if b then Full u else Going u) ≡ went_on b u
kept_by true u = refl
kept_by false u = refl

pub kept_on : (conditions : List Condition) (columns : List ColumnDecl) (limit : Option ℕ) (cells : List Cell) (s u : WalkState) (full : Bool) → meets conditions columns cells ≡ true → u.rows ≡ s.rows ++ cells ∷ [] → u.items ≡ s.items + 1 → u.steady ≡ s.steady
    → full ≡ is_reached limit (length u.rows) → with_row conditions columns limit (Some (Whole cells)) s ≡ went_on full u
kept_on conditions columns limit cells s u full holds rows items steady is =
    let k : suc s.items ≡ u.items = omega arith in
    let v : WalkState = record { rows = s.rows ++ cells ∷ []; items = suc s.items; steady = s.steady } in
    let same : v ≡ u = λ i. record { rows = sym rows i; items = k i; steady = sym steady i } in
    ap (λ b. if b then with_row_kept limit (s.rows ++ cells ∷ []) s else Going (record { rows = s.rows; items = suc s.items; steady = s.steady })) holds
    ∙ kept_by (is_reached limit (length v.rows)) v
    ∙ ap (λ w. went_on (is_reached limit (length w.rows)) w) same
    ∙ ap (λ b. went_on b u) (sym is)

pub grows_by : (s u : WalkState) (xs : List (List Cell)) → u.rows ≡ s.rows ++ xs → Grows s u
grows_by s u xs is n le = (
  ap (take n) is ∙ take-append-le n s.rows xs le,
  (let e : length u.rows ≡ length s.rows + length xs = ap length is ∙ length-append s.rows xs in omega arith),
)

pub grows_same : (s u : WalkState) → u.rows ≡ s.rows → Grows s u
grows_same s u is n le = (ap (take n) is, subst (λ (xs : List (List Cell)). n ≤ length xs) (sym is) le)

-- a row fails
pub failed_so : {X : Type 0} (scope : ScanScope) (s : Course X) (rows : List FlightRow) (number : ℕ) (column : List ℕ) (cause : Cause) → number ≡ s.walk.items + 1
    → state_of scope (record s { end = Some (Failed number (Some column) cause) }) ≡ ended_so (state_of scope s) (FailedAt (suc s.walk.items) (Some column) cause)
failed_so scope s rows number column cause is =
    let k : number ≡ suc s.walk.items = omega arith in
    ap (λ n. ended_so (state_of scope s) (FailedAt n (Some column) cause)) k

pub rest_room : (f g : InFlight) (s : Seated) (n : ℕ) → f ≡ record g { rows = s ∷ g.rows } → length f.rows ≤ n → length g.rows ≤ n
rest_room f g s n is le = let e : length f.rows ≡ suc (length g.rows) = ap (λ x. length x.rows) is in omega arith
