-- What a piece of a call's reply makes of a scan.
use Rattle.std.specs.Prelude.{◌≡◌, ◌⊎◌, ◌≤◌, ℕ, ◌+◌, ◌==◌, true, nat_lt, List, [], length, Option, Some, None, if◌then◌else◌}
use Rattle.sp_value.specs.declared.cell.Cell.{Cell}
use Rattle.sp_model.specs.declared.call.Asked.{Asked}
use Rattle.sp_model.specs.declared.call.Asked.TheVariants as asks
use Rattle.sp_model.specs.declared.call.CallKey.{CallKey}
use Rattle.sp_model.specs.declared.call.Piece.{Piece}
use Rattle.sp_model.specs.declared.call.Piece.TheVariants as piece
use Rattle.sp_model.specs.declared.scan.Access.{Access}
use Rattle.sp_model.specs.declared.scan.Seat.{Seat}
use Rattle.sp_model.specs.Settling.{Answers}
use Rattle.row_flight.specs.Flying.{IsAwaited, heard_at, rows_of}
use Rattle.row_flight.specs.Hearing.{IsPieceOfSeen, AllHear, Keeps}
use Rattle.scan_laws.specs.Flights.{AreApart}
use Rattle.scan_laws.specs.Scans.{AllAgree}
use Rattle.row_stream.specs.Streams.{Stream, restarted, fed, is_out, place_of}
use Rattle.scan_laws.specs.States.{Outer, Inner, Scan}
use Rattle.scan_laws.specs.Steps.{item_came, ending_came, parent_came, parents_ended}
use Rattle.scan_core.specs.Advances.{Advances}
use Rattle.scan_core.specs.Courses.{state_of, table_of, IsCourse}
use Rattle.scan_core.specs.Going.{GoesOn}
use Rattle.scan_core.specs.Listing.{items_slot, items_function}
use Rattle.scan_core.specs.declared.calls.ItemsCall.{ItemsCall}
use Rattle.scan_core.specs.declared.calls.OpenCall.{OpenCall}
use Rattle.scan_core.specs.declared.calls.ParentsCall.{ParentsCall}
use Rattle.scan_core.specs.declared.course.Course.{Course}
use Rattle.scan_core.specs.declared.scope.ScanScope.{ScanScope}
use Rattle.scan_core.specs.declared.seat.SeatOf.{SeatOf}
use Rattle.scan_core.specs.declared.seat.SeatOf.TheVariants.{Items, Parents, Row}

-- a piece of place 0 begins the call anew
abbrev pub anew : Stream → Piece → Stream
anew s p = if place_of p == 0 then restarted s else s

-- the tick at which the ending is taken in
abbrev pub ended_at : Piece → ℕ → ℕ → ℕ
ended_at (piece.Item place x) tick before = before
ended_at (piece.Ending count e) tick before = tick

-- the call once a piece of it is taken in at this tick; its items are handed on
abbrev pub open_heard : {X : Type 0} → OpenCall X → Piece → ℕ → OpenCall X
open_heard c p tick = record c { stream = record (fed (anew c.stream p) p) { waiting = [] }; ended_at = ended_at p tick c.ended_at }

abbrev pub items_heard : {X : Type 0} → ItemsCall X → Piece → ℕ → ItemsCall X
items_heard c p tick = record c { call = open_heard c.call p tick }

-- nothing changed but, perhaps, that place 0 is expected
abbrev pub MayBeginAnew : {X : Type 0} → OpenCall X → Piece → OpenCall X → Type 0
MayBeginAnew old p new = (new ≡ old) ⊎ (new ≡ record old { stream = anew old.stream p })

-- the items that are handed on
abbrev pub handed_on : Stream → Piece → List Cell
handed_on s p = (fed (anew s p) p).waiting

-- a piece of the inner call comes: an item at a place at which one came before is passed over
abbrev pub inner_heard : Scan → Inner → Piece → Scan
inner_heard st i (piece.Item place x) = if nat_lt place (i.decided + length st.inside) then st else item_came st x
inner_heard st i (piece.Ending count e) = ending_came st i e

abbrev pub outer_heard : Scan → Outer → Piece → Scan
outer_heard st o (piece.Item place x) = if nat_lt place (o.walked + length o.waiting) then st else parent_came st o x
outer_heard st o (piece.Ending count e) = parents_ended st o e

-- the call is listed, its ending didn't come, and no item was left out before this piece
pub record InnerTakes (st : Scan) (i : Inner) (p : Piece) : Type 0 where
  pub listed : i.listed ≡ true
  pub going : i.ending ≡ None
  pub next : place_of p ≤ i.decided + length st.inside

pub record OuterTakes (o : Outer) (p : Piece) : Type 0 where
  pub listed : o.listed ≡ true
  pub going : o.ending ≡ None
  pub next : place_of p ≤ o.walked + length o.waiting

-- ---- seats

-- by the number of a seat's function it waits for the get, list or child list, for the parents call, or for a function of a row
abbrev pub seat_of : Access → ℕ → SeatOf
seat_of access function = if function == items_function access then Items else (if function == 64 then Parents else Row)

-- the call that a seat waits for
pub record IsAskedAt {X : Type 0} (c : OpenCall X) (slot : ℕ) (seat : Seat) (asked : Asked) : Type 0 where
  pub slot_is : seat.slot ≡ slot
  pub generation : seat.generation ≡ c.generation
  pub call : asked ≡ asks.Call c.stream.call

-- its present attempt is listed, and this piece of it is next
pub record CallAwaits {X : Type 0} (c : OpenCall X) (slot : ℕ) (seat : Seat) (asked : Asked) (p : Piece) : Type 0 where
  pub at : IsAskedAt c slot seat asked
  pub listed : c.listed ≡ true
  pub next : is_out (anew c.stream p) p ≡ true → ⊥

abbrev pub ItemsAwait : {X : Type 0} → ScanScope → Course X → Seat → Asked → Piece → Type 0
ItemsAwait {X} scope c seat asked p = (i : ItemsCall X) × (c.items ≡ Some i) × CallAwaits i.call (items_slot scope.request.access) seat asked p

abbrev pub ParentsAwait : {X : Type 0} → Course X → Seat → Asked → Piece → Type 0
ParentsAwait {X} c seat asked p = (o : ParentsCall X) × (c.parents ≡ Some o) × CallAwaits o.call 0 seat asked p

abbrev pub RowAwaits : {X : Type 0} → Course X → Seat → Asked → Piece → Type 0
RowAwaits c seat asked p = (key : CallKey) × (asked ≡ asks.Call key) × IsAwaited c.flight seat key p

abbrev pub AwaitsBy : {X : Type 0} → SeatOf → ScanScope → Course X → Seat → Asked → Piece → Type 0
AwaitsBy Items scope c seat asked p = ItemsAwait scope c seat asked p
AwaitsBy Parents scope c seat asked p = ParentsAwait c seat asked p
AwaitsBy Row scope c seat asked p = RowAwaits c seat asked p

-- The scan isn't decided, the seat waits for this call in its present attempt, which is listed, and this piece of it is next.
abbrev pub Awaits : {X : Type 0} → ScanScope → Course X → Seat → Asked → Piece → Type 0
Awaits scope c seat asked p = (c.end ≡ None) × AwaitsBy (seat_of scope.request.access seat.function) scope c seat asked p

-- ---- what becomes of the scan

abbrev pub ItemsHear : {X : Type 0} → ScanScope → Course X → Piece → Course X → Type 0
ItemsHear scope old p new = (i : Inner) × ((state_of scope old).inner ≡ Some i) × (state_of scope new ≡ inner_heard (state_of scope old) i p) × InnerTakes (state_of scope old) i p

abbrev pub ParentsHear : {X : Type 0} → ScanScope → Course X → Piece → Course X → Type 0
ParentsHear scope old p new = (o : Outer) × ((state_of scope old).outer ≡ Some o) × (state_of scope new ≡ outer_heard (state_of scope old) o p) × OuterTakes o p

-- where it is a piece of what is answered, the rows go on agreeing with that
abbrev pub RowsKeep : {X : Type 0} → ScanScope → Course X → Asked → Piece → Course X → Type 0
RowsKeep scope old asked p new =
    (answers : Answers) (key : CallKey) → asked ≡ asks.Call key → AreApart (table_of scope) → AllAgree (table_of scope) answers (rows_of old.flight) → AllHear (table_of scope) answers old.flight.rows → IsPieceOfSeen (answers key.call key.attempt) p
    → Keeps (table_of scope) scope.request answers old.flight.rows new.flight.rows []

abbrev pub HearsBy : {X : Type 0} → SeatOf → ScanScope → Course X → Seat → Asked → Piece → ℕ → Course X → Type 0
HearsBy Items scope old seat asked p tick new = ItemsHear scope old p new × (new.flight ≡ old.flight)
HearsBy Parents scope old seat asked p tick new = ParentsHear scope old p new × (new.flight ≡ old.flight)
HearsBy Row scope old seat asked p tick new = (new ≡ record old { flight = heard_at old.flight seat p tick }) × RowsKeep scope old asked p new

-- a piece of the call that a seat waits for is taken in at this tick
pub record Hears {X : Type 0} (scope : ScanScope) (old : Course X) (seat : Seat) (asked : Asked) (p : Piece) (tick : ℕ) (new : Course X) : Type 0 where
  pub awaited : AwaitsBy (seat_of scope.request.access seat.function) scope old seat asked p
  pub heard : HearsBy (seat_of scope.request.access seat.function) scope old seat asked p tick new

-- then the scan goes on by itself
pub record TakesIn {X : Type 0} (scope : ScanScope) (old : Course X) (seat : Seat) (asked : Asked) (p : Piece) (tick : ℕ) (new : Course X) : Type 0 where
  pub mid : Course X
  pub going : old.end ≡ None
  pub form : IsCourse scope mid
  pub hears : Hears scope old seat asked p tick mid
  pub advances : Advances (table_of scope) scope.request scope.window (state_of scope mid) (state_of scope new)
  pub goes : GoesOn mid new

abbrev pub SameParents : {X : Type 0} → Option (ParentsCall X) → Option (ParentsCall X) → Type 0
SameParents None None = Unit {0}
SameParents (Some a) (Some b) = (b.call ≡ a.call) × (b.waiting.items ≡ a.waiting.items)
SameParents _ _ = ⊥

-- nothing changed
pub record IsUnchanged {X : Type 0} (old new : Course X) : Type 0 where
  pub parents : SameParents old.parents new.parents
  pub items : new.items ≡ old.items
  pub before : new.before ≡ old.before
  pub flight : new.flight ≡ old.flight
  pub waiting : new.waiting.items ≡ old.waiting.items
  pub walk : new.walk ≡ old.walk
  pub end : new.end ≡ old.end

-- the scan stands as it did
pub record StandsStill {X : Type 0} (scope : ScanScope) (old new : Course X) : Type 0 where
  pub state : state_of scope new ≡ state_of scope old
  pub flight : new.flight ≡ old.flight
  pub end : new.end ≡ old.end
