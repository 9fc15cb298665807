-- What holds of a scan's parts stays as its calls are listed and pieces of their replies come.
use Rattle.std.proofs.Common.{◌≡◌, ◌⊎◌, inl, inr, ℕ, Bool, true, List, [], ◌∷◌, ◌++◌, length, take, drop, Option, Some, None, IsTrue, refl, sym, ap, subst, ◌∙◌, append_assoc}
use Rattle.std.proofs.lemmas.List.{length-map, append-nil}
use Rattle.sp_value.specs.declared.cell.Cell.{Cell}
use Rattle.sp_model.specs.Book.{Book}
use Rattle.sp_model.specs.RowOf.{columns_named}
use Rattle.sp_model.specs.Settling.{Answers, answers_of}
use Rattle.sp_model.specs.Requests.{IsRequestOf}
use Rattle.sp_model.specs.declared.call.Asked.{Asked}
use Rattle.sp_model.specs.declared.call.Asked.TheVariants as asks
use Rattle.sp_model.specs.declared.call.Call.{Call}
use Rattle.sp_model.specs.declared.call.Call.TheVariants as calls
use Rattle.sp_model.specs.declared.call.CallKey.{CallKey}
use Rattle.sp_model.specs.declared.call.Piece.{Piece}
use Rattle.sp_model.specs.declared.call.Piece.TheVariants as piece
use Rattle.sp_model.specs.declared.call.Reply.{Reply}
use Rattle.sp_model.specs.declared.call.Version.{Version}
use Rattle.sp_model.specs.declared.call.Version.TheVariants.{Is, Bad}
use Rattle.sp_model.specs.declared.declaration.TableDecl.{TableDecl}
use Rattle.sp_model.specs.declared.scan.ScanRequest.{ScanRequest}
use Rattle.sp_model.specs.declared.scan.Seat.{Seat}
use Rattle.sp_world.specs.Pieces.{IsPieceOf, IsToldPiece, IsSoundPiece}
use Rattle.model_laws.specs.LawfulScans.{is_lawful_scan}
use Rattle.row_flight.proofs.Going.{flight_goes_on}
use Rattle.row_flight.specs.Flying.{Seated, InFlight, IsOf, rows_of, heard_at}
use Rattle.row_flight.specs.Hearing.{IsPieceOfSeen, AllHear}
use Rattle.row_flight.specs.Jobs.{DifferInListed, made_of}
use Rattle.row_flight.specs.declared.frame.Wanted.{Wanted}
use Rattle.scan_laws.proofs.Stepping.{inner_is_listed, outer_is_listed}
use Rattle.scan_laws.specs.Flights.{AreApart}
use Rattle.scan_laws.specs.Reaching.{Made}
use Rattle.scan_laws.specs.Scans.{Agrees, Keeps, items_of}
use Rattle.scan_laws.specs.States.{Outer, Inner, Scan}
use Rattle.scan_laws.specs.Steps.{flown}
use Rattle.scan_core.proofs.HeardRows.{heard_items}
use Rattle.scan_core.proofs.Keeping.{advance_keeps, inner_hears, outer_hears, keeps_none, keeps_then}
use Rattle.scan_core.proofs.Listed.{items_state, parents_state, differ_items}
use Rattle.scan_core.specs.Calls.{inner_of, inner_view, outer_of, outer_view}
use Rattle.scan_core.specs.Courses.{end_view, state_of, table_of, IsCourse}
use Rattle.scan_core.specs.Going.{IsIn}
use Rattle.scan_core.specs.Hearing.{AwaitsBy, HearsBy, TakesIn, StandsStill, seat_of}
use Rattle.scan_core.specs.Laws.{IsOpen}
use Rattle.scan_core.specs.Listing.{items_slot, items_function, items_listed, parents_listed, wanted_of, CallLists, ListsNone, ListsItems, ListsParents, CourseLists}
use Rattle.scan_core.specs.declared.course.Course.{Course}
use Rattle.scan_core.specs.declared.course.CourseEnd.{CourseEnd}
use Rattle.scan_core.specs.declared.scope.ScanScope.{ScanScope}
use Rattle.scan_core.specs.declared.seat.SeatOf.{SeatOf}
use Rattle.scan_core.specs.declared.seat.SeatOf.TheVariants.{Items, Parents, Row}
use Rattle.one_scan.proofs.Lawful.{items_some, access_lawful, functions_apart}
use Rattle.one_scan.proofs.Places.{inner_waits, outer_waits, flown_waits}
use Rattle.one_scan.proofs.RowForms.{listed_rows_form, heard_rows_form, goes_form, goes_hear}
use Rattle.one_scan.proofs.StateForms.{advances_form, listed_form, outer_listed_form, flown_form, heard_form, outer_heard_form}
use Rattle.one_scan.specs.Forms.{IsStateForm, IsPlanForm, IsRowForm, IsForm}
use Rattle.one_scan.specs.Scans.{IsAt, AgreesWith, IsScan}

-- ---- rows in flight that are replaced

-- the state with other rows of the same items
pub flown_state : {X : Type 0} (scope : ScanScope) (c d : Course X) → d ≡ record c { flight = d.flight } → items_of (rows_of d.flight) ≡ items_of (rows_of c.flight) → state_of scope d ≡ flown (state_of scope c) (rows_of d.flight)
flown_state scope c d rest items =
    ap (state_of scope) rest
    ∙ ap (λ (xs : List Cell). record (state_of scope c) { first = take c.before (xs ++ c.waiting.items); inside = drop c.before (xs ++ c.waiting.items); flight = rows_of d.flight }) items

-- ---- calls are listed

made_append : (xs ys : List Wanted) → made_of (xs ++ ys) ≡ made_of xs ++ made_of ys
made_append [] ys = refl
made_append (x ∷ xs) ys = ap (λ (made : List Made). (x.call.call, x.call.attempt) ∷ made) (made_append xs ys)

-- a call is listed, and no row changes
pub record CallGoes {X : Type 0} (scope : ScanScope) (c m : Course X) (before after : List Wanted) : Type 0 where
  pub more : List Wanted
  pub grows : after ≡ before ++ more
  pub flight : m.flight ≡ c.flight
  pub walk : m.walk ≡ c.walk
  pub end : m.end ≡ c.end
  pub form : IsStateForm (table_of scope) scope.request (state_of scope c) → IsStateForm (table_of scope) scope.request (state_of scope m)
  pub keeps : (answers : Answers) → Agrees (table_of scope) scope.request answers (state_of scope c) → (state_of scope c).end ≡ None → Keeps (table_of scope) scope.request answers (state_of scope c) (state_of scope m) (made_of more)
  pub waits : IsOpen (table_of scope) scope.request (state_of scope c) → IsOpen (table_of scope) scope.request (state_of scope m)

pub call_goes : {X : Type 0} (scope : ScanScope) (scan : ℕ) (c m : Course X) (before after : List Wanted) → IsCourse scope c → CallLists scope scan c m before after → CallGoes scope c m before after
call_goes {X} scope scan c m before after course (ListsNone same jobs) = record {
  more = [];
  grows = jobs ∙ sym (append-nil before);
  flight = ap (λ z. z.flight) same;
  walk = ap (λ z. z.walk) same;
  end = ap (λ z. z.end) same;
  form = λ f. subst (λ (z : Course X). IsStateForm (table_of scope) scope.request (state_of scope z)) (sym same) f;
  keeps = λ answers a on. keeps_none (table_of scope) scope.request answers (state_of scope c) (state_of scope m) (ap (state_of scope) same) a;
  waits = λ w. subst (λ (z : Course X). IsOpen (table_of scope) scope.request (state_of scope z)) (sym same) w;
}
call_goes {X} scope scan c m before after course (ListsItems i is off new put) =
    let state = ap (state_of scope) new ∙ items_state scope c i (items_listed i) refl in
    let inner : (state_of scope c).inner ≡ Some (inner_of scope.items c.walk i) = ap (inner_view scope.items c.walk) is in
    record {
      more = wanted_of i.call scan (items_slot scope.request.access) (items_function scope.request.access) ∷ [];
      grows = put;
      flight = ap (λ z. z.flight) new;
      walk = ap (λ z. z.walk) new;
      end = ap (λ z. z.end) new;
      form = λ f. subst (IsStateForm (table_of scope) scope.request) (sym state) (listed_form (table_of scope) scope.request (state_of scope c) (inner_of scope.items c.walk i) inner f);
      keeps = λ answers a on.
          subst (λ (st : Scan). Keeps (table_of scope) scope.request answers (state_of scope c) st ((i.call.stream.call.call, i.call.stream.call.attempt) ∷ [])) (sym state)
          (inner_is_listed (table_of scope) scope.request answers (state_of scope c) (inner_of scope.items c.walk i) a on inner off);
      waits = λ w. subst (IsOpen (table_of scope) scope.request) (sym state) (inner_waits (table_of scope) scope.request (state_of scope c) (inner_of scope.items c.walk i) inner w);
    }
call_goes {X} scope scan c m before after course (ListsParents o closed is off new put) =
    let state = ap (state_of scope) new ∙ parents_state scope c o (parents_listed o) refl in
    let outer : (state_of scope c).outer ≡ Some (outer_of o) = ap outer_view is in
    let none : (state_of scope c).inner ≡ None = ap (inner_view scope.items c.walk) closed in
    record {
      more = wanted_of o.call scan 0 64 ∷ [];
      grows = put;
      flight = ap (λ z. z.flight) new;
      walk = ap (λ z. z.walk) new;
      end = ap (λ z. z.end) new;
      form = λ f. subst (IsStateForm (table_of scope) scope.request) (sym state) (outer_listed_form (table_of scope) scope.request (state_of scope c) (outer_of o) outer f);
      keeps = λ answers a on.
          subst (λ (asked : Call). Keeps (table_of scope) scope.request answers (state_of scope c) (state_of scope m) ((asked, o.call.stream.call.attempt) ∷ [])) (sym (course.parents o is).asked)
          (subst (λ (st : Scan). Keeps (table_of scope) scope.request answers (state_of scope c) st ((calls.Parents (table_of scope).name, o.call.stream.call.attempt) ∷ [])) (sym state)
          (outer_is_listed (table_of scope) scope.request answers (state_of scope c) (outer_of o) a on outer none off));
      waits = λ w. subst (IsOpen (table_of scope) scope.request) (sym state) (outer_waits (table_of scope) scope.request (state_of scope c) (outer_of o) outer none w);
    }

-- ---- pieces

piece_seen : (r : Reply) (p : Piece) → IsPieceOf r p → IsPieceOfSeen (record { items = r.items; ending = Some r.ending }) p
piece_seen r (piece.Item place x) of = of
piece_seen r (piece.Ending count e) of = (of.0, ap (λ z. Some z) (sym of.1))

-- a told piece is one of what the book answers at the scan's connection and version
pub told_seen : (book : Book) (connection : List ℕ) (version : ℕ) (key : CallKey) (p : Piece) → key.connection ≡ connection → key.version ≡ version → IsToldPiece book (asks.Call key) p → IsPieceOfSeen (answers_of book connection version key.call key.attempt) p
told_seen book connection version key p at of told =
    subst (λ (v : ℕ). IsPieceOfSeen (answers_of book connection v key.call key.attempt) p) of
    (subst (λ (z : List ℕ). IsPieceOfSeen (answers_of book z key.version key.call key.attempt) p) at (piece_seen (book.reply key) p told))

module _ {X : Type 0} (scope : ScanScope) where
  -- ---- after calls are listed

  listed_form_on : (scan : ℕ) (c d : Course X) (before after : List Wanted) → CourseLists scope scan c d before after → IsCourse scope c → IsForm scope c → IsForm scope d
  listed_form_on scan c d before after l course f =
      let goes = call_goes scope scan c l.mid before l.jobs course l.call in
      let differ : DifferInListed c.flight.rows d.flight.rows = subst (λ (z : InFlight). DifferInListed z.rows d.flight.rows) goes.flight l.rows.differ in
      let plan : d.flight.plan ≡ c.flight.plan = l.rows.plan ∙ ap (λ (z : InFlight). z.plan) goes.flight in
      let frame : d.flight.frame ≡ c.flight.frame = l.rows.frame ∙ ap (λ (z : InFlight). z.frame) goes.flight in
      let state : state_of scope d ≡ flown (state_of scope l.mid) (rows_of d.flight) = flown_state scope l.mid d l.rest (differ_items l.mid.flight.rows d.flight.rows l.rows.differ) in
      record {
        state = subst (IsStateForm (table_of scope) scope.request) (sym state) (flown_form (table_of scope) scope.request (state_of scope l.mid) (rows_of d.flight) (goes.form f.state));
        plan = subst (IsPlanForm (table_of scope)) (sym plan) f.plan;
        rows = λ s there. subst (λ q. IsRowForm q s.row) (sym plan) (listed_rows_form c.flight.plan c.flight.rows d.flight.rows differ f.rows s there);
        connection = ap (λ z. z.connection) frame ∙ f.connection;
        version = ap (λ z. z.version) frame ∙ f.version;
      }

  -- the calls that come to the end of the list
  abbrev pub more_of : (scan : ℕ) (c d : Course X) (before after : List Wanted) → IsCourse scope c → CourseLists scope scan c d before after → List Wanted
  more_of scan c d before after course l = (call_goes scope scan c l.mid before l.jobs course l.call).more ++ l.rows.more

  pub more_grows : (scan : ℕ) (c d : Course X) (before after : List Wanted) (course : IsCourse scope c) (l : CourseLists scope scan c d before after) → after ≡ before ++ more_of scan c d before after course l
  more_grows scan c d before after course l =
      let goes = call_goes scope scan c l.mid before l.jobs course l.call in
      l.rows.grows ∙ ap (λ (ws : List Wanted). ws ++ l.rows.more) goes.grows ∙ append_assoc before goes.more l.rows.more

  pub listed_keeps : (scan : ℕ) (c d : Course X) (before after : List Wanted) (answers : Answers) (course : IsCourse scope c) (l : CourseLists scope scan c d before after) → AreApart (table_of scope) → (state_of scope c).end ≡ None
      → Agrees (table_of scope) scope.request answers (state_of scope c) → AllHear (table_of scope) answers c.flight.rows
      → Keeps (table_of scope) scope.request answers (state_of scope c) (state_of scope d) (made_of (more_of scan c d before after course l)) × AllHear (table_of scope) answers d.flight.rows
  listed_keeps scan c d before after answers course l apart on a hear =
      let goes = call_goes scope scan c l.mid before l.jobs course l.call in
      let m = l.mid in
      let first : Keeps (table_of scope) scope.request answers (state_of scope c) (state_of scope m) (made_of goes.more) = goes.keeps answers a on in
      let of : IsOf (table_of scope) scope.request m.flight = subst (IsOf (table_of scope) scope.request) (sym goes.flight) course.flight in
      let hears : AllHear (table_of scope) answers m.flight.rows = subst (λ (z : InFlight). AllHear (table_of scope) answers z.rows) (sym goes.flight) hear in
      let keeps = l.rows.keeps (table_of scope) scope.request answers of apart first.agrees.rows hears in
      let still : (state_of scope m).end ≡ None = ap (λ (z : Option CourseEnd). end_view m.walk z) goes.end ∙ ap (λ w. end_view w c.end) goes.walk ∙ on in
      let flies = flight_goes_on (table_of scope) scope.request answers (state_of scope m) m.flight.rows d.flight.rows (made_of l.rows.more) first.agrees still refl keeps in
      let state : state_of scope d ≡ flown (state_of scope m) (rows_of d.flight) = flown_state scope m d l.rest (differ_items m.flight.rows d.flight.rows l.rows.differ) in
      let next : Keeps (table_of scope) scope.request answers (state_of scope m) (state_of scope d) (made_of l.rows.more) =
      subst (λ (st : Scan). Keeps (table_of scope) scope.request answers (state_of scope m) st (made_of l.rows.more)) (sym state) flies in (
        subst (Keeps (table_of scope) scope.request answers (state_of scope c) (state_of scope d)) (sym (made_append goes.more l.rows.more))
            (keeps_then (table_of scope) scope.request answers (state_of scope c) (state_of scope m) (state_of scope d) (made_of goes.more) (made_of l.rows.more) first next),
        keeps.hear,
      )

  pub listed_waits : (scan : ℕ) (c d : Course X) (before after : List Wanted) → IsCourse scope c → CourseLists scope scan c d before after → IsOpen (table_of scope) scope.request (state_of scope c) → IsOpen (table_of scope) scope.request (state_of scope d)
  listed_waits scan c d before after course l w =
      let goes = call_goes scope scan c l.mid before l.jobs course l.call in
      let m = l.mid in
      let state : state_of scope d ≡ flown (state_of scope m) (rows_of d.flight) = flown_state scope m d l.rest (differ_items m.flight.rows d.flight.rows l.rows.differ) in
      subst (IsOpen (table_of scope) scope.request) (sym state) (flown_waits (table_of scope) scope.request (state_of scope m) m.flight.rows d.flight.rows refl l.rows.differ (goes.waits w))

  pub listed_end : (scan : ℕ) (c d : Course X) (before after : List Wanted) → IsCourse scope c → CourseLists scope scan c d before after → d.end ≡ c.end
  listed_end scan c d before after course l = ap (λ z. z.end) l.rest ∙ (call_goes scope scan c l.mid before l.jobs course l.call).end

  -- ---- after a piece came

  module _ (wide : length (columns_named scope.request.columns (table_of scope).columns) ≡ length scope.request.columns) (lawful : is_lawful_scan (table_of scope) scope.request ≡ true) where
    heard_form_by : (kind : SeatOf) (c m : Course X) (seat : Seat) (asked : Asked) (p : Piece) (tick : ℕ) → HearsBy kind scope c seat asked p tick m → IsSoundPiece p → IsForm scope c → IsForm scope m
    heard_form_by Items c m seat asked p tick h sound f = record {
      state = subst (IsStateForm (table_of scope) scope.request) (sym h.0.2) (heard_form (table_of scope) scope.request (state_of scope c) h.0.0 p h.0.1 sound f.state);
      plan = subst (λ (z : InFlight). IsPlanForm (table_of scope) z.plan) (sym h.1) f.plan;
      rows = subst (λ (z : InFlight). (s : Seated) → IsIn s z.rows → IsRowForm z.plan s.row) (sym h.1) f.rows;
      connection = ap (λ (z : InFlight). z.frame.connection) h.1 ∙ f.connection;
      version = ap (λ (z : InFlight). z.frame.version) h.1 ∙ f.version;
    }
    heard_form_by Parents c m seat asked p tick h sound f = record {
      state = subst (IsStateForm (table_of scope) scope.request) (sym h.0.2) (outer_heard_form (table_of scope) scope.request (state_of scope c) h.0.0 p h.0.1 sound f.state);
      plan = subst (λ (z : InFlight). IsPlanForm (table_of scope) z.plan) (sym h.1) f.plan;
      rows = subst (λ (z : InFlight). (s : Seated) → IsIn s z.rows → IsRowForm z.plan s.row) (sym h.1) f.rows;
      connection = ap (λ (z : InFlight). z.frame.connection) h.1 ∙ f.connection;
      version = ap (λ (z : InFlight). z.frame.version) h.1 ∙ f.version;
    }
    heard_form_by Row c m seat asked p tick h sound f =
        let d = record c { flight = heard_at c.flight seat p tick } in
        let state : state_of scope d ≡ flown (state_of scope c) (rows_of d.flight) = flown_state scope c d refl (heard_items seat p tick c.flight.rows) in
        let form : IsForm scope d = record {
          state = subst (IsStateForm (table_of scope) scope.request) (sym state) (flown_form (table_of scope) scope.request (state_of scope c) (rows_of d.flight) f.state);
          plan = f.plan;
          rows = heard_rows_form c.flight.plan seat p tick c.flight.rows f.plan.apart sound f.rows;
          connection = f.connection;
          version = f.version;
        } in
        subst (λ (z : Course X). IsForm scope z) (sym h.0) form

    takes_form : (c d : Course X) (seat : Seat) (asked : Asked) (p : Piece) (tick : ℕ) → TakesIn scope c seat asked p tick d → IsSoundPiece p → IsForm scope c → IsForm scope d
    takes_form c d seat asked p tick t sound f =
        let m = heard_form_by (seat_of scope.request.access seat.function) c t.mid seat asked p tick t.hears.heard sound f in
        record {
          state = advances_form (table_of scope) scope.request (items_some (table_of scope) scope.request.conditions scope.request.access (access_lawful (table_of scope) scope.request lawful)) wide scope.window (state_of scope t.mid) (state_of scope d) t.advances m.state;
          plan = subst (IsPlanForm (table_of scope)) (sym t.goes.plan) m.plan;
          rows = goes_form (table_of scope) t.mid d t.goes m.plan m.state.items m.rows;
          connection = ap (λ z. z.connection) t.goes.frame ∙ m.connection;
          version = ap (λ z. z.version) t.goes.frame ∙ m.version;
        }

  -- ---- against what is answered

  module _ (book : Book) (version : ℕ) (apart : AreApart (table_of scope)) (at : scope.version ≡ version) where
    abbrev Good : Course X → Type 0
    Good c = Agrees (table_of scope) scope.request (answers_of book scope.request.connection version) (state_of scope c) × AllHear (table_of scope) (answers_of book scope.request.connection version) c.flight.rows

    -- it goes on agreeing, and lists nothing
    abbrev Went : Course X → Course X → Type 0
    Went c m = Keeps (table_of scope) scope.request (answers_of book scope.request.connection version) (state_of scope c) (state_of scope m) [] × AllHear (table_of scope) (answers_of book scope.request.connection version) m.flight.rows

    heard_went : (kind : SeatOf) (c m : Course X) (seat : Seat) (asked : Asked) (p : Piece) (tick : ℕ) → IsCourse scope c → c.flight.frame.connection ≡ scope.request.connection → c.flight.frame.version ≡ scope.version → (state_of scope c).end ≡ None
        → AwaitsBy kind scope c seat asked p → HearsBy kind scope c seat asked p tick m → IsToldPiece book asked p → Good c → Went c m
    heard_went Items c m seat asked p tick form connection of on w h told g =
        let i = w.0 in
        let call = (form.items i w.1).call in
        let seen : IsPieceOfSeen ((answers_of book scope.request.connection version) i.call.stream.call.call i.call.stream.call.attempt) p =
        told_seen book scope.request.connection version i.call.stream.call p call.connection (call.version ∙ at) (subst (λ (z : Asked). IsToldPiece book z p) w.2.at.call told) in
        let is : Some (inner_of scope.items c.walk i) ≡ Some h.0.0 = sym (ap (inner_view scope.items c.walk) w.1) ∙ h.0.1 in
        let same : inner_of scope.items c.walk i ≡ h.0.0 = cc in
        let seen_here : IsPieceOfSeen ((answers_of book scope.request.connection version) h.0.0.asked h.0.0.attempt) p = subst (λ (z : Inner). IsPieceOfSeen ((answers_of book scope.request.connection version) z.asked z.attempt) p) same seen in (
          subst (λ (st : Scan). Keeps (table_of scope) scope.request (answers_of book scope.request.connection version) (state_of scope c) st []) (sym h.0.2) (inner_hears (table_of scope) scope.request (answers_of book scope.request.connection version) (state_of scope c) h.0.0 p g.0 on h.0.1 h.0.3 seen_here),
          subst (λ (z : InFlight). AllHear (table_of scope) (answers_of book scope.request.connection version) z.rows) (sym h.1) g.1,
        )
    heard_went Parents c m seat asked p tick form connection of on w h told g =
        let o = w.0 in
        let pf = form.parents o w.1 in
        let seen : IsPieceOfSeen ((answers_of book scope.request.connection version) o.call.stream.call.call o.call.stream.call.attempt) p =
        told_seen book scope.request.connection version o.call.stream.call p pf.call.connection (pf.call.version ∙ at) (subst (λ (z : Asked). IsToldPiece book z p) w.2.at.call told) in
        let is : Some (outer_of o) ≡ Some h.0.0 = sym (ap outer_view w.1) ∙ h.0.1 in
        let same : outer_of o ≡ h.0.0 = cc in
        let seen_here : IsPieceOfSeen ((answers_of book scope.request.connection version) (calls.Parents (table_of scope).name) h.0.0.attempt) p =
        subst (λ (z : Outer). IsPieceOfSeen ((answers_of book scope.request.connection version) (calls.Parents (table_of scope).name) z.attempt) p) same
        (subst (λ z. IsPieceOfSeen ((answers_of book scope.request.connection version) z o.call.stream.call.attempt) p) pf.asked seen) in (
          subst (λ (st : Scan). Keeps (table_of scope) scope.request (answers_of book scope.request.connection version) (state_of scope c) st []) (sym h.0.2) (outer_hears (table_of scope) scope.request (answers_of book scope.request.connection version) (state_of scope c) h.0.0 p g.0 on h.0.1 h.0.3 seen_here),
          subst (λ (z : InFlight). AllHear (table_of scope) (answers_of book scope.request.connection version) z.rows) (sym h.1) g.1,
        )
    heard_went Row c m seat asked p tick form connection of on w h told g =
        let key = w.0 in
        let seen : IsPieceOfSeen ((answers_of book scope.request.connection version) key.call key.attempt) p =
        told_seen book scope.request.connection version key p (w.2.connection ∙ connection) (w.2.version ∙ of ∙ at) (subst (λ (z : Asked). IsToldPiece book z p) w.1 told) in
        let keeps = h.1 (answers_of book scope.request.connection version) key w.1 apart g.0.rows g.1 seen in
        let rest : m ≡ record c { flight = m.flight } = h.0 ∙ ap (λ (z : InFlight). record c { flight = z }) (sym (ap (λ z. z.flight) h.0)) in
        let items : items_of (rows_of m.flight) ≡ items_of (rows_of c.flight) = keeps.items in
        let flies = flight_goes_on (table_of scope) scope.request (answers_of book scope.request.connection version) (state_of scope c) c.flight.rows m.flight.rows [] g.0 on refl keeps in
        (subst (λ (st : Scan). Keeps (table_of scope) scope.request (answers_of book scope.request.connection version) (state_of scope c) st []) (sym (flown_state scope c m rest items)) flies, keeps.hear)

    pub takes_went : (c d : Course X) (seat : Seat) (asked : Asked) (p : Piece) (tick : ℕ) → IsCourse scope c → c.flight.frame.connection ≡ scope.request.connection → c.flight.frame.version ≡ scope.version → TakesIn scope c seat asked p tick d → IsToldPiece book asked p → Good c → Went c d
    takes_went c d seat asked p tick form connection of t told g =
        let on : (state_of scope c).end ≡ None = ap (end_view c.walk) t.going in
        let mid = heard_went (seat_of scope.request.access seat.function) c t.mid seat asked p tick form connection of on t.hears.awaited t.hears.heard told g in (
          keeps_then (table_of scope) scope.request (answers_of book scope.request.connection version) (state_of scope c) (state_of scope t.mid) (state_of scope d) [] [] mid.0
              (advance_keeps (table_of scope) scope.request scope.window (answers_of book scope.request.connection version) (state_of scope t.mid) (state_of scope d) apart mid.0.agrees t.advances),
          goes_hear (table_of scope) (answers_of book scope.request.connection version) t.mid d t.goes mid.1,
        )

-- ---- the whole

pub listed_scan : {X : Type 0} (tells : Bool) (book : Book) (scope : ScanScope) (scan : ℕ) (c d : Course X) (version : Version) (asked : ℕ) (before after : List Wanted) → IsScan tells book scope c version asked → IsCourse scope d
    → CourseLists scope scan c d before after → c.end ≡ None → IsScan tells book scope d version asked
listed_scan {X} tells book scope scan c d version asked before after s course l open_end = record {
  sources = s.sources;
  course = course;
  form = listed_form_on scope scan c d before after l s.course s.form;
  at = at_by version s.at;
  sayable = s.sayable;
  made = s.made;
  lawful = s.lawful;
  tick = s.tick;
  told = λ t. let told = s.told t in record { of_book = told.of_book; version = told.version; agrees = agrees_by version told.agrees };
}
  where
    at_by : (v : Version) → IsAt v scope c → IsAt v scope d
    at_by (Is v) a = a
    at_by (Bad text) a = let bad : None ≡ Some _ = sym open_end ∙ a in absurd (cc)

    agrees_by : (v : Version) → AgreesWith book v scope c → AgreesWith book v scope d
    agrees_by (Is v) g =
        let keeps = listed_keeps scope scan c d before after (answers_of book scope.request.connection v) s.course l (functions_apart (table_of scope) scope.request s.lawful) (ap (end_view c.walk) open_end) g.0 g.1 in
        (keeps.0.agrees, keeps.1)
    agrees_by (Bad text) g = tt

-- the columns of a request are as many as those of its table by their names
wide_of : (table : TableDecl) (request : ScanRequest) → IsRequestOf table request → length (columns_named request.columns table.columns) ≡ length request.columns
wide_of table request made =
    sym (ap length made.columns ∙ length-map (columns_named request.columns table.columns) (λ column. column.name))

pub taken_scan : {X : Type 0} (tells : Bool) (book : Book) (scope : ScanScope) (c d : Course X) (version : Version) (asked : ℕ) (seat : Seat) (of : Asked) (p : Piece) (tick : ℕ) → IsScan tells book scope c version asked → IsCourse scope d
    → IsSoundPiece p → (IsTrue tells → IsToldPiece book of p) → TakesIn scope c seat of p tick d → IsScan tells book scope d version asked
taken_scan {X} tells book scope c d version asked seat of p tick s course sound of_book t = record {
  sources = s.sources;
  course = course;
  form = takes_form scope (wide_of (table_of scope) scope.request s.made) s.lawful c d seat of p tick t sound s.form;
  at = at_by version s.at;
  sayable = s.sayable;
  made = s.made;
  lawful = s.lawful;
  tick = s.tick;
  told = λ tells_so. let told = s.told tells_so in record { of_book = told.of_book; version = told.version; agrees = agrees_by (of_book tells_so) version s.at told.agrees };
}
  where
    at_by : (v : Version) → IsAt v scope c → IsAt v scope d
    at_by (Is v) a = a
    at_by (Bad text) a = let bad : None ≡ Some _ = sym t.going ∙ a in absurd (cc)

    agrees_by : IsToldPiece book of p → (v : Version) → IsAt v scope c → AgreesWith book v scope c → AgreesWith book v scope d
    agrees_by told (Is v) a g =
        let went = takes_went scope book v (functions_apart (table_of scope) scope.request s.lawful) a c d seat of p tick s.course s.form.connection s.form.version t told g in
        (went.0.agrees, went.1)
    agrees_by told (Bad text) a g = tt

-- nothing happened
pub still_scan : {X : Type 0} (tells : Bool) (book : Book) (scope : ScanScope) (c d : Course X) (version : Version) (asked : ℕ) → IsScan tells book scope c version asked → IsCourse scope d → StandsStill scope c d → IsScan tells book scope d version asked
still_scan {X} tells book scope c d version asked s course still = record {
  sources = s.sources;
  course = course;
  form = record {
    state = subst (IsStateForm (table_of scope) scope.request) (sym still.state) s.form.state;
    plan = subst (λ (z : InFlight). IsPlanForm (table_of scope) z.plan) (sym still.flight) s.form.plan;
    rows = subst (λ (z : InFlight). (r : Seated) → IsIn r z.rows → IsRowForm z.plan r.row) (sym still.flight) s.form.rows;
    connection = ap (λ (z : InFlight). z.frame.connection) still.flight ∙ s.form.connection;
    version = ap (λ (z : InFlight). z.frame.version) still.flight ∙ s.form.version;
  };
  at = at_by version s.at;
  sayable = s.sayable;
  made = s.made;
  lawful = s.lawful;
  tick = s.tick;
  told = λ t. let told = s.told t in record { of_book = told.of_book; version = told.version; agrees = agrees_by version told.agrees };
}
  where
    at_by : (v : Version) → IsAt v scope c → IsAt v scope d
    at_by (Is v) a = a
    at_by (Bad text) a = still.end ∙ a

    agrees_by : (v : Version) → AgreesWith book v scope c → AgreesWith book v scope d
    agrees_by (Is v) g = (
      subst (Agrees (table_of scope) scope.request (answers_of book scope.request.connection v)) (sym still.state) g.0,
      subst (λ (z : InFlight). AllHear (table_of scope) (answers_of book scope.request.connection v) z.rows) (sym still.flight) g.1,
    )
    agrees_by (Bad text) g = tt

-- want of memory
pub memory_scan : {X : Type 0} (tells : Bool) (book : Book) (scope : ScanScope) (c d : Course X) (version : Version) (asked : ℕ) (seat : Seat) (of : Asked) (p : Piece) (tick : ℕ) → IsScan tells book scope c version asked → IsCourse scope d
    → IsSoundPiece p → (IsTrue tells → IsToldPiece book of p) → StandsStill scope c d ⊎ TakesIn scope c seat of p tick d → IsScan tells book scope d version asked
memory_scan tells book scope c d version asked seat of p tick s course sound told (inl still) = still_scan tells book scope c d version asked s course still
memory_scan tells book scope c d version asked seat of p tick s course sound told (inr takes) = taken_scan tells book scope c d version asked seat of p tick s course sound told takes
