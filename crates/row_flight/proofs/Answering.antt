-- A piece is taken in at its seat.
use Rattle.std.proofs.Common.{◌≡◌, ℕ, suc, Bool, true, false, List, [], ◌∷◌, length, map, Option, Some, None, Result, Ok, Err, IsTrue, if◌then◌else◌, refl, sym, ap, subst, ◌∙◌, arith}
use Rattle.std.specs.Prelude.{slice_get, IfSome, OnErr}
use Rattle.std.proofs.lemmas.Bool.Decides.{Decides-eqb}
use Rattle.std.proofs.lemmas.List.{length-set}
use Rattle.sp_model.specs.Settling.{Answers}
use Rattle.sp_model.specs.declared.call.CallKey.{CallKey}
use Rattle.sp_model.specs.declared.call.Piece.{Piece}
use Rattle.sp_model.specs.declared.declaration.TableDecl.{TableDecl}
use Rattle.sp_model.specs.declared.outcome.Outcome.{Outcome}
use Rattle.sp_model.specs.declared.scan.ScanRequest.{ScanRequest}
use Rattle.sp_model.specs.declared.scan.Seat.{Seat}
use Rattle.hydrate_graph.proofs.Hydrating.{and_left, and_right}
use Rattle.hydrate_graph.specs.Graphs.{Plan, Graph, is_ready}
use Rattle.row_pool.specs.Pools.{Pool, shown}
use Rattle.row_pool.specs.declared.key.Key.{Key}
use Rattle.scan_laws.proofs.Counting.{count_append}
use Rattle.scan_laws.specs.Flights.{row_listed, AreApart, RowAgrees}
use Rattle.scan_laws.specs.Scans.{items_of, flight_listed, AllAgree}
use Rattle.row_flight.proofs.Pooling.{seated_shows, shown_sits}
use Rattle.row_flight.proofs.Stepping.{stays, piece_goes}
use Rattle.row_flight.specs.Attempts.{IsAttempt}
use Rattle.row_flight.specs.Flying.{InFlight, Seated, IsOf, Sits, IsAwaited, rows_in, key_at, is_at, hears_at}
use Rattle.row_flight.specs.Hearing.{IsPieceOfSeen, AllHear, RowHears, RowGoes, Keeps}
use Rattle.row_flight.specs.Pooled.{seated, IsFlight, IsSound}
use Rattle.row_flight.specs.Rows.{flight_row, attempt_of, with_attempt, slot_of, settled_so, call_of, row_hears, RowAwaits, IsRow, IsPlaced}
use Rattle.row_flight.specs.declared.attempt.Attempt.{Attempt}
use Rattle.row_flight.specs.declared.frame.CallFrame.{CallFrame}
use Rattle.row_flight.specs.declared.row.RowCalls.{RowCalls}

pub if_some : {X : Type 0} (P : X → Type 0) (o : Option X) (x : X) → o ≡ Some x → P x → IfSome o P
if_some P o x e p = subst (λ z. IfSome z P) (sym e) p

pub on_err : {X E : Type 0} (Q : Type 0) (r : Result X E) → Q → OnErr r Q
on_err Q (Ok x) q = tt
on_err Q (Err e) q = q

-- ---- a row that hears stays a row

settled_plan : (g : Graph) (k : ℕ) (o : Option Outcome) → (settled_so g k o).plan ≡ g.plan
settled_plan g k None = refl
settled_plan g k (Some o) = refl

settled_length : (g : Graph) (k : ℕ) (o : Option Outcome) → length (settled_so g k o).settled ≡ length g.settled
settled_length g k None = refl
settled_length g k (Some o) = length-set g.settled k (Some o)

pub attempts_length : (attempts : List Attempt) (slot : Option ℕ) (a : Attempt) → length (with_attempt attempts slot a) ≡ length attempts
attempts_length attempts None a = refl
attempts_length attempts (Some slot) a = length-set attempts slot a

pub hears_plan : (row : RowCalls) (k : ℕ) (p : Piece) (tick : ℕ) → (row_hears row k p tick).graph.plan ≡ row.graph.plan
hears_plan row k p tick = settled_plan row.graph k _

pub hears_row : (row : RowCalls) (k : ℕ) (p : Piece) (tick : ℕ) → IsRow row → IsRow (row_hears row k p tick)
hears_row row k p tick is =
    let plan = hears_plan row k p tick in
    record {
      room = attempts_length row.attempts (slot_of row.graph.plan k) _ ∙ is.room ∙ ap (λ q. q.room) (sym plan);
      rules = ap (λ q. length q.rules) plan ∙ is.rules ∙ ap (λ q. length q.functions) (sym plan);
      settled = settled_length row.graph k _ ∙ is.settled ∙ ap (λ q. length q.functions) (sym plan);
      listed = λ said. absurd (cc);
    }

-- ---- each row in its way

pub map_goes : (table : TableDecl) (request : ScanRequest) (answers : Answers) (h : Seated → Seated) (rows : List Seated)
    → ((place : ℕ) (s : Seated) → slice_get rows place ≡ Some s → RowAgrees table answers (flight_row s.row) → RowHears table answers s.row → RowGoes table request answers s.row (h s).row [])
    → AllAgree table answers (rows_in rows) → AllHear table answers rows → Keeps table request answers rows (map h rows) []
map_goes table request answers h [] goes agree hear = record { agree = tt; hear = tt; items = refl; listed = λ p. omega arith }
map_goes table request answers h (s ∷ rows) goes agree hear =
    let g = goes 0 s refl agree.0 hear.0 in
    let rest = map_goes table request answers h rows (λ place t at. goes (suc place) t at) agree.1 hear.1 in
    record {
      agree = (g.keeps.agrees, rest.agree);
      hear = (g.hears, rest.hear);
      items = ap (λ x. x ∷ items_of (rows_in (map h rows))) g.keeps.item ∙ ap (λ xs. s.row.graph.item ∷ xs) rest.items;
      listed = λ p.
          let k = g.keeps.listed p in
          let r = rest.listed p in
          let m = count_append p (row_listed table request (flight_row s.row)) (flight_listed table request (rows_in rows)) in
          let n = count_append p (row_listed table request (flight_row (h s).row)) (flight_listed table request (rows_in (map h rows))) in
          omega (arith, k, r, m, n);
    }

at_key : (key : Key) (seat : Seat) → is_at key seat ≡ true → key ≡ key_at seat
at_key key seat e =
    let s = (Decides-eqb key.slot seat.slot).0 (and_left _ _ e) in
    let g = (Decides-eqb key.generation seat.generation).0 (and_right _ _ e) in
    λ i. record { slot = s i; generation = g i }

module _ (plan : Plan) (frame : CallFrame) (window number : ℕ) (pool : Pool RowCalls) (keys : List Key) (f : IsFlight plan window number pool keys) (seat : Seat) where
  abbrev flight : InFlight
  flight = record { plan = plan; frame = frame; window = window; rows = seated pool keys }

  -- a row that is shown sits at its seat
  pub shown_at : (row : RowCalls) → shown pool (key_at seat) ≡ Some row → Sits flight seat row
  shown_at row is = let a = f.all (key_at seat) row is in (a.0, shown_sits pool keys (key_at seat) row f.shows is a.0 a.1)

  pub sits_shown : (row : RowCalls) → Sits flight seat row → shown pool (key_at seat) ≡ Some row
  sits_shown row sits = seated_shows pool keys sits.0 (record { key = key_at seat; row = row }) sits.1

  one_row : (row other : RowCalls) → shown pool (key_at seat) ≡ Some row → shown pool (key_at seat) ≡ Some other → row ≡ other
  one_row row other is too = let e : Some row ≡ Some other = sym is ∙ too in cc

  -- it is waited for exactly where the row waits for it
  pub awaited : (row : RowCalls) (asked : CallKey) (p : Piece) (b : Bool) → shown pool (key_at seat) ≡ Some row → asked.connection ≡ frame.connection → asked.version ≡ frame.version
      → (IsTrue b → RowAwaits frame.table row seat.function asked.call asked.attempt p) × (RowAwaits frame.table row seat.function asked.call asked.attempt p → IsTrue b)
      → (IsTrue b → IsAwaited flight seat asked p) × (IsAwaited flight seat asked p → IsTrue b)
  awaited row asked p b is connection version by = (
    λ t. record { row = row; sits = shown_at row is; awaits = by.0 t; connection = connection; version = version },
    λ a. by.1 (subst (λ r. RowAwaits frame.table r seat.function asked.call asked.attempt p) (one_row a.row row (sits_shown a.row a.sits) is) a.awaits),
  )

  pub nobody_awaits : (asked : CallKey) (p : Piece) → shown pool (key_at seat) ≡ None → IsAwaited flight seat asked p → ⊥
  nobody_awaits asked p none a = let bad : None ≡ Some a.row = sym none ∙ sits_shown a.row a.sits in cc

  module _ (row : RowCalls) (slot : ℕ) (is : shown pool (key_at seat) ≡ Some row) (placed : IsPlaced row seat.function slot) (sound : IsAttempt (attempt_of row seat.function)) (p : Piece) (tick : ℕ) where
    -- the row at the seat takes a piece in, and the others stay
    pub answer_goes : (table : TableDecl) (request : ScanRequest) (answers : Answers) (asked : CallKey) → IsOf table request flight → AreApart table → AllAgree table answers (rows_in (seated pool keys)) → AllHear table answers (seated pool keys)
        → IsAwaited flight seat asked p → IsPieceOfSeen (answers asked.call asked.attempt) p → Keeps table request answers (seated pool keys) (map (hears_at seat p tick) (seated pool keys)) []
    answer_goes table request answers asked of apart agree hear awaits piece =
        map_goes table request answers (hears_at seat p tick) (seated pool keys) (λ place s at agrees hears. by s (seated_shows pool keys place s at) agrees hears (is_at s.key seat) refl) agree hear
      where
        plan_is : row.graph.plan ≡ plan
        plan_is = (f.rows (key_at seat) row is).0

        waits : RowAwaits frame.table row seat.function asked.call asked.attempt p
        waits = subst (λ r. RowAwaits frame.table r seat.function asked.call asked.attempt p) (one_row awaits.row row (sits_shown awaits.row awaits.sits) is) awaits.awaits

        here : RowAgrees table answers (flight_row row) → RowHears table answers row → RowGoes table request answers row (row_hears row seat.function p tick) []
        here agrees hears =
            piece_goes table request answers row seat.function slot apart (ap (λ q. q.functions) plan_is ∙ of.functions) (subst IsSound (sym plan_is) f.sound) placed
            (and_left (is_ready row.graph seat.function) (attempt_of row seat.function).listed waits.0) agrees hears (ap (λ q. q.rules) plan_is ∙ of.rules) sound
            (and_right (is_ready row.graph seat.function) (attempt_of row seat.function).listed waits.0) asked.call asked.attempt
            (subst (λ name. call_of name row seat.function ≡ Some asked.call) of.name waits.1) waits.2 p tick waits.3 piece

        by : (s : Seated) → shown pool s.key ≡ Some s.row → RowAgrees table answers (flight_row s.row) → RowHears table answers s.row → (b : Bool) → is_at s.key seat ≡ b
            → RowGoes table request answers s.row (if b then record { key = s.key; row = row_hears s.row seat.function p tick } else s).row []
        by s at agrees hears false e = record { keeps = stays table request answers (flight_row s.row) agrees; hears = hears }
        by s at agrees hears true e =
            let same : row ≡ s.row = one_row row s.row is (ap (shown pool) (sym (at_key s.key seat e)) ∙ at) in
            subst (λ r. RowAgrees table answers (flight_row r) → RowHears table answers r → RowGoes table request answers r (row_hears r seat.function p tick) []) same here agrees hears
