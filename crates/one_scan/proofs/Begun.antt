-- A scan as it begins.
use Rattle.std.proofs.Common.{◌≡◌, ◌≤◌, ◌^◌, ℕ, zero, suc, nat_le, Bool, true, false, ◌&&◌, List, [], ◌∷◌, length, get_or, map, filter, Option, Some, None, IsTrue, if◌then◌else◌, refl, sym, ap, subst, ◌∙◌, arith}
use Rattle.std.proofs.lemmas.Bool.{leb-true}
use Rattle.std.specs.Prelude.{Result, Ok, Err, IfOk}
use Rattle.std.specs.List.{list_all}
use Rattle.std.specs.Option.{option_map_or}
use Rattle.sp_model.specs.Book.{Book}
use Rattle.sp_model.specs.Requests.{IsRequestOf}
use Rattle.sp_model.specs.Rests.{column_rests}
use Rattle.sp_model.specs.RowOf.{has_name, columns_named}
use Rattle.sp_model.specs.Sayable.{IsSayableVersion}
use Rattle.sp_model.specs.Settling.{rule_of, attempts_of, answers_of}
use Rattle.sp_model.specs.Walk.{get_source, list_source}
use Rattle.sp_model.specs.declared.call.Call.TheVariants as call
use Rattle.sp_model.specs.declared.call.Asked.{Asked}
use Rattle.sp_model.specs.declared.call.Asked.TheVariants as asks
use Rattle.sp_model.specs.declared.call.Version.{Version}
use Rattle.sp_model.specs.declared.call.Version.TheVariants.{Is, Bad}
use Rattle.sp_model.specs.declared.declaration.FunctionDecl.{FunctionDecl}
use Rattle.sp_model.specs.declared.declaration.Rule.{Rule}
use Rattle.sp_model.specs.declared.declaration.TableDecl.{TableDecl}
use Rattle.sp_model.specs.declared.outcome.Walk.{Walk}
use Rattle.sp_model.specs.declared.outcome.Walk.TheVariants.{Failed}
use Rattle.sp_model.specs.declared.scan.Cause.TheVariants.{BadVersion}
use Rattle.sp_model.specs.declared.scan.Access.{Access}
use Rattle.sp_model.specs.declared.scan.Access.TheVariants.{Get, List as OfList, Parents}
use Rattle.sp_model.specs.declared.scan.ScanRequest.{ScanRequest}
use Rattle.sp_world.specs.Pieces.{IsToldVersion}
use Rattle.decl_words.specs.BookTables.{book_table}
use Rattle.decl_words.specs.Limits.{is_short, column_fits, function_fits, list_fits, get_fits, rule_fits}
use Rattle.decl_words.specs.Sound.{IsSound}
use Rattle.model_laws.proofs.Merging.{left, right}
use Rattle.model_laws.specs.LawfulScans.{has_attempts, is_lawful_scan}
use Rattle.hydrate_graph.specs.Graphs.{Plan, rules_in}
use Rattle.hydrate_graph.specs.Plans.{AreApart}
use Rattle.row_flight.specs.Flying.{InFlight}
use Rattle.row_flight.specs.Hearing.{AllHear}
use Rattle.row_flight.specs.Rows.{no_rule}
use Rattle.scan_laws.proofs.Stepping.{scan_begins}
use Rattle.scan_laws.specs.Scans.{Agrees}
use Rattle.scan_laws.specs.States.{Inner, Outer, Scan, begun}
use Rattle.scan_laws.specs.Steps.{first_parents, begin_by, begin_of}
use Rattle.scan_core.specs.Calls.{items_source}
use Rattle.scan_core.specs.Courses.{end_view, state_of, table_of, IsScope, IsCourse}
use Rattle.scan_core.specs.Going.{IsIn}
use Rattle.scan_core.specs.Laws.{IsOpen}
use Rattle.scan_core.specs.declared.course.Course.{Course}
use Rattle.scan_core.specs.declared.scope.ScanScope.{ScanScope}
use Rattle.one_scan.proofs.Places.{begun_waits}
use Rattle.one_scan.proofs.Lawful.{items_some, outer_some, access_lawful, functions_tried}
use Rattle.one_scan.specs.Forms.{AreItems, AreWide, IsAskedBy, IsInnerForm, IsOuterForm, IsStateForm, IsPlanForm, IsForm}
use Rattle.one_scan.specs.Runs.{state_at}
use Rattle.one_scan.specs.Scans.{IsAt, AgreesWith, IsScan, Waits, number_of, end_of, IsBegun, BeginsAt}

-- ---- a table that is sound

all_some : {X : Type 0} (p q : X → Bool) (x : X) (xs : List X) (b : Bool) → q x ≡ b → p x ≡ true → list_all p (filter q xs) ≡ true → list_all p (if b then x ∷ filter q xs else filter q xs) ≡ true
all_some p q x xs true e here all = ap (λ b. b && list_all p (filter q xs)) here ∙ all
all_some p q x xs false e here all = all

all_filter : {X : Type 0} (p q : X → Bool) (xs : List X) → list_all p xs ≡ true → list_all p (filter q xs) ≡ true
all_filter p q [] all = refl
all_filter p q (x ∷ xs) all = all_some p q x xs (q x) refl (left (p x) (list_all p xs) all) (all_filter p q xs (right (p x) (list_all p xs) all))

pub sound_rests : (table : TableDecl) (names : List (List ℕ)) → IsSound table → list_all (column_rests table.functions) (columns_named names table.columns) ≡ true
sound_rests table names s = all_filter (column_rests table.functions) (λ column. has_name names column.name) table.columns s.rests

pub sound_few : (table : TableDecl) → IsSound table → (length table.functions ≤ 64) × (length table.columns ≤ 256)
sound_few table s =
    let a : Bool = is_short table.name in
    let b : Bool = nat_le (length table.columns) 256 in
    let c : Bool = list_all column_fits table.columns in
    let d : Bool = nat_le (length table.functions) 64 in
    let e : Bool = list_all function_fits table.functions in
    let f : Bool = option_map_or list_fits table.list true in
    let g : Bool = option_map_or get_fits table.get true in
    let h : Bool = rule_fits table.ignore table.retry in
    let abcd : (a && b && c && d) ≡ true = left (a && b && c && d) e (left (a && b && c && d && e) f (left (a && b && c && d && e && f) g (left (a && b && c && d && e && f && g) h s.limits))) in
    (leb-true (length table.functions) 64 (right (a && b && c) d abcd), leb-true (length table.columns) 256 (right a b (left (a && b) c (left (a && b && c) d abcd))))

-- ---- the plan

tried_at : (table : TableDecl) (fs : List FunctionDecl) (k : ℕ) → list_all (λ (f : FunctionDecl). has_attempts table f.ignore f.retry) fs ≡ true → 1 ≤ attempts_of (get_or (map (λ (f : FunctionDecl). rule_of table f.ignore f.retry) fs) k no_rule).retry
tried_at table [] k all = omega arith
tried_at table (f ∷ fs) zero all = leb-true 1 _ (left (has_attempts table f.ignore f.retry) (list_all (λ (g : FunctionDecl). has_attempts table g.ignore g.retry) fs) all)
tried_at table (f ∷ fs) (suc k) all = tried_at table fs k (right (has_attempts table f.ignore f.retry) (list_all (λ (g : FunctionDecl). has_attempts table g.ignore g.retry) fs) all)

pub plan_form : (table : TableDecl) (request : ScanRequest) (plan : Plan) → is_lawful_scan table request ≡ true → plan.functions ≡ table.functions → plan.rules ≡ rules_in table table.functions → length plan.slots ≡ length plan.functions → AreApart plan.slots
    → IsPlanForm table plan
plan_form table request plan h functions rules count apart = record {
  functions = functions;
  rules = rules;
  count = count;
  apart = apart;
  attempts = λ k. subst (λ (rs : List Rule). 1 ≤ attempts_of (get_or rs k no_rule).retry) (sym rules) (tried_at table table.functions k (functions_tried table request h));
}

-- ---- the state

module _ (table : TableDecl) (request : ScanRequest) (h : is_lawful_scan table request ≡ true) where
  some_attempt : 1 ≤ attempts_of (items_source request.access table).rule.retry
  some_attempt = items_some table request.conditions request.access (access_lawful table request h)

  inner_begun : (access : Access) → request.access ≡ access → (i : Inner) → (begin_by access table request).inner ≡ Some i → IsInnerForm table request i
  inner_begun Get e i is =
      let s = subst (λ a. 1 ≤ attempts_of (items_source a table).rule.retry) e some_attempt in
      let same : begun (call.Get table.name request.conditions) (get_source table table.get) ≡ i = cc in
      subst (λ (z : Inner). IsInnerForm table request z) same (record { source = sym (ap (λ a. items_source a table) e); first = omega arith; last = s; asked = subst (λ a. IsAskedBy a table request (call.Get table.name request.conditions)) (sym e) refl; entered = λ u none. absurd (cc) })
  inner_begun OfList e i is =
      let s = subst (λ a. 1 ≤ attempts_of (items_source a table).rule.retry) e some_attempt in
      let same : begun (call.List table.name request.conditions None) (list_source table table.list) ≡ i = cc in
      subst (λ (z : Inner). IsInnerForm table request z) same (record { source = sym (ap (λ a. items_source a table) e); first = omega arith; last = s; asked = subst (λ a. IsAskedBy a table request (call.List table.name request.conditions None)) (sym e) refl; entered = λ u none. absurd (cc) })
  inner_begun Parents e i is = absurd (cc)

  outer_begun : (access : Access) → request.access ≡ access → (o : Outer) → (begin_by access table request).outer ≡ Some o → IsOuterForm table request o
  outer_begun Get e o is = absurd (cc)
  outer_begun OfList e o is = absurd (cc)
  outer_begun Parents e o is =
      let same : first_parents ≡ o = cc in
      subst (λ (z : Outer). IsOuterForm table request z) same (record { access = e; first = omega arith; last = outer_some table request.conditions request.access (access_lawful table request h) e; items = tt })

  rest_begun : (access : Access) → ((begin_by access table request).waiting ≡ []) × ((begin_by access table request).now.rows ≡ [])
  rest_begun Get = (refl, refl)
  rest_begun OfList = (refl, refl)
  rest_begun Parents = (refl, refl)

  -- whatever its end is
  begun_state : (st : Scan) (end : Option Walk) → st ≡ record (begin_of table request) { end = end } → IsStateForm table request st
  begun_state st end is =
      let r = rest_begun request.access in
      subst (λ (z : Scan). IsStateForm table request z) (sym is) (record {
        inner = inner_begun request.access refl;
        outer = outer_begun request.access refl;
        items = subst AreItems (sym r.0) tt;
        rows = subst (AreWide (length request.columns)) (sym r.1) tt;
      })

-- ---- the scan

none_by : (table : TableDecl) (request : ScanRequest) (access : Access) → record (begin_by access table request) { end = None } ≡ begin_by access table request
none_by table request Get = refl
none_by table request OfList = refl
none_by table request Parents = refl

pub begun_scan : {X : Type 0} (tells : Bool) (book : Book) (scope : ScanScope) (d : Course X) (version : Version) (asked : ℕ) → IsScope scope → BeginsAt scope version d → scope.version ≡ number_of version → IsSayableVersion version
    → IsRequestOf (table_of scope) scope.request → is_lawful_scan (table_of scope) scope.request ≡ true → asked ≤ 2 ^ 62
    → (IsTrue tells → (book_table book scope.request.connection scope.request.table ≡ Some (table_of scope)) × (version ≡ book.version scope.request.connection asked)) → IsScan tells book scope d version asked
begun_scan {X} tells book scope d version asked sources begins number sayable made lawful tick told =
    let c = begins.0 in
    let b = begins.1 in
    record {
      sources = sources;
      course = subst (λ (z : Course X). IsCourse scope z) (sym begins.2) (record { front = b.course.front; closed = b.course.closed; items = b.course.items; parents = b.course.parents; flight = b.course.flight; window = b.course.window; room = b.course.room; few = b.course.few });
      form = subst (λ (z : Course X). IsForm scope z) (sym begins.2) (record {
        state = begun_state (table_of scope) scope.request lawful (state_of scope (record c { end = end_of version })) (end_view c.walk (end_of version)) (ap (λ (st : Scan). record st { end = end_view c.walk (end_of version) }) b.state);
        plan = b.plan;
        rows = λ s there. absurd (subst (IsIn s) b.rows there);
        connection = b.connection;
        version = b.version;
      });
      at = at_by version begins.2 number;
      sayable = sayable;
      made = made;
      lawful = lawful;
      tick = tick;
      told = λ t. let t2 = told t in record { of_book = t2.0; version = t2.1; agrees = agrees_by version begins.2 };
    }
  where
    at_by : (v : Version) → d ≡ record begins.0 { end = end_of v } → scope.version ≡ number_of v → IsAt v scope d
    at_by (Is v) e n = n
    at_by (Bad text) e n = ap (λ (z : Course X). z.end) e

    agrees_by : (v : Version) → d ≡ record begins.0 { end = end_of v } → AgreesWith book v scope d
    agrees_by (Is v) e = (
      subst (λ (z : Course X). Agrees (table_of scope) scope.request (answers_of book scope.request.connection v) (state_of scope z)) (sym e)
          (subst (Agrees (table_of scope) scope.request (answers_of book scope.request.connection v)) (sym (ap (λ (st : Scan). record st { end = None }) begins.1.state ∙ none_by (table_of scope) scope.request scope.request.access))
          (scan_begins (table_of scope) scope.request (answers_of book scope.request.connection v)).0),
      subst (λ (z : Course X). AllHear (table_of scope) (answers_of book scope.request.connection v) z.flight.rows) (sym e) (subst (AllHear (table_of scope) (answers_of book scope.request.connection v)) (sym begins.1.rows) tt),
    )
    agrees_by (Bad text) e = tt

-- ---- where it stands

pub begun_state_at : {X : Type 0} (scope : ScanScope) (d : Course X) (version : Version) → BeginsAt scope version d → state_of scope d ≡ state_at (table_of scope) scope.request version
begun_state_at scope d (Is v) begins = ap (state_of scope) begins.2 ∙ ap (λ (st : Scan). record st { end = None }) begins.1.state ∙ none_by (table_of scope) scope.request scope.request.access
begun_state_at scope d (Bad text) begins = ap (state_of scope) begins.2 ∙ ap (λ (st : Scan). record st { end = Some (Failed 0 None (BadVersion text)) }) begins.1.state

begun_place : {X : Type 0} (scope : ScanScope) (d : Course X) (version : Version) → BeginsAt scope version d → d.end ≡ None → IsOpen (table_of scope) scope.request (state_of scope d)
begun_place scope d (Is v) begins on = subst (IsOpen (table_of scope) scope.request) (sym (begun_state_at scope d (Is v) begins)) (begun_waits (table_of scope) scope.request scope.request.access)
begun_place {X} scope d (Bad text) begins on = let bad : None ≡ Some _ = sym on ∙ ap (λ (z : Course X). z.end) begins.2 in absurd (cc)

pub begun_is_waiting : {X : Type 0} (scope : ScanScope) (d : Course X) (version : Version) (window : ℕ) (wanting : Bool) → BeginsAt scope version d → scope.window ≡ window → 1 ≤ window → Waits scope d wanting
begun_is_waiting scope d version window wanting begins of some = record { room = subst (λ (n : ℕ). 1 ≤ n) (sym of) some; place = λ w on. begun_place scope d version begins on }

pub begun_at_state : {X : Type 0} (scope : ScanScope) (d : Course X) (request : ScanRequest) (table : TableDecl) (version told : Version) → BeginsAt scope version d → scope.request ≡ request → table_of scope ≡ table → version ≡ told
    → state_of scope d ≡ state_at table request told
begun_at_state scope d request table version told begins of_request of_table same =
    begun_state_at scope d version begins ∙ ap (λ (t : TableDecl). state_at t scope.request version) of_table ∙ ap (λ (r : ScanRequest). state_at table r version) of_request ∙ ap (state_at table request) same

-- ---- for the functions that begin a scan

pub begun_result : {X E : Type 0} (scope : ScanScope) (plan : Plan) (r : Result (Course X) E) → IfOk r (λ c. state_of scope c ≡ begin_of (table_of scope) scope.request) → IfOk r (IsCourse scope)
    → IfOk r (λ c. c.flight ≡ record { plan = plan; frame = record { connection = scope.request.connection; version = scope.version; table = (table_of scope).name }; window = scope.window; rows = [] }) → IsPlanForm (table_of scope) plan → IfOk r (IsBegun scope)
begun_result scope plan (Ok c) state form flight is = record {
  state = state;
  course = form;
  plan = subst (λ (f : InFlight). IsPlanForm (table_of scope) f.plan) (sym flight) is;
  rows = ap (λ (f : InFlight). f.rows) flight;
  connection = ap (λ (f : InFlight). f.frame.connection) flight;
  version = ap (λ (f : InFlight). f.frame.version) flight;
}
begun_result scope plan (Err e) state form flight is = tt

told_version : (book : Book) (connection : List ℕ) (asked : ℕ) (of : Asked) (v : Version) → of ≡ asks.Version connection asked → IsToldVersion book of v → v ≡ book.version connection asked
told_version book connection asked of v is told = subst (λ (z : Asked). IsToldVersion book z v) is told

pub begun_at : {X : Type 0} (tells : Bool) (book : Book) (scope : ScanScope) (d : Course X) (request : ScanRequest) (table : TableDecl) (of : Asked) (told : Version) (version : Version) (asked : ℕ) → scope.request ≡ request → table_of scope ≡ table
    → IsScope scope → BeginsAt scope version d → scope.version ≡ number_of version → version ≡ told → IsSayableVersion told → IsRequestOf table request → is_lawful_scan table request ≡ true → asked ≤ 2 ^ 62 → of ≡ asks.Version request.connection asked
    → (IsTrue tells → book_table book request.connection request.table ≡ Some table) → (IsTrue tells → IsToldVersion book of told) → IsScan tells book scope d version asked
begun_at tells book scope d request table of told version asked of_request of_table sources begins number same sayable made lawful tick is of_book told_so =
    begun_scan tells book scope d version asked sources begins number (subst IsSayableVersion (sym same) sayable)
    (subst (λ (z : TableDecl). IsRequestOf z scope.request) (sym of_table) (subst (IsRequestOf table) (sym of_request) made))
    (ap (λ (z : TableDecl). is_lawful_scan z scope.request) of_table ∙ ap (is_lawful_scan table) of_request ∙ lawful) tick
    (λ t. (
      ap (λ (z : ScanRequest). book_table book z.connection z.table) of_request ∙ of_book t ∙ ap (λ (z : TableDecl). Some z) (sym of_table),
      same ∙ told_version book request.connection asked of told is (told_so t) ∙ ap (λ (z : ScanRequest). book.version z.connection asked) (sym of_request),
    ))
