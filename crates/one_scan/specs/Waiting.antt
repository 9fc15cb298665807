-- The calls that a scan waits for.
use Rattle.std.specs.Prelude.{◌≡◌, ℕ, ◌==◌, ◌&&◌, true, nat_lt, Option, Some, None, is_none, if◌then◌else◌}
use Rattle.sp_model.specs.declared.call.Asked.{Asked}
use Rattle.sp_model.specs.declared.call.Asked.TheVariants as asks
use Rattle.sp_model.specs.declared.call.CallKey.{CallKey}
use Rattle.sp_model.specs.declared.call.Piece.{Piece}
use Rattle.sp_model.specs.declared.outcome.ScanValue.{ScanValue}
use Rattle.sp_model.specs.declared.scan.Seat.{Seat}
use Rattle.row_stream.specs.Streams.{is_out}
use Rattle.row_flight.specs.Dues.{sooner, due_of}
use Rattle.row_flight.specs.Flying.{IsAwaited}
use Rattle.scan_core.specs.Hearing.{anew, seat_of}
use Rattle.scan_core.specs.Listing.{items_slot}
use Rattle.scan_core.specs.declared.seat.SeatOf.{SeatOf}
use Rattle.scan_core.specs.declared.seat.SeatOf.TheVariants.{Items, Parents, Row}
use Rattle.one_scan.specs.Views.{Present, ScanView}

-- ---- pieces

-- the seat is the call's, which is listed, and this piece of it is next: a piece of place 0 always is, until the ending came
pub record IsNextOf (c : Present) (slot : ℕ) (seat : Seat) (asked : Asked) (p : Piece) : Type 0 where
  pub slot_is : seat.slot ≡ slot
  pub generation : seat.generation ≡ c.generation
  pub call : asked ≡ asks.Call c.stream.call
  pub listed : c.listed ≡ true
  pub next : is_out (anew c.stream p) p ≡ true → ⊥

abbrev pub IsNextAt : Option Present → ℕ → Seat → Asked → Piece → Type 0
IsNextAt None slot seat asked p = ⊥
IsNextAt (Some c) slot seat asked p = IsNextOf c slot seat asked p

abbrev pub WaitsBy : SeatOf → ScanView → Seat → Asked → Piece → Type 0
WaitsBy Items s seat asked p = IsNextAt s.items (items_slot s.request.access) seat asked p
WaitsBy Parents s seat asked p = IsNextAt s.parents 0 seat asked p
WaitsBy Row s seat asked p = (key : CallKey) × (asked ≡ asks.Call key) × IsAwaited s.flight seat key p

-- The scan isn't decided, the seat waits for this call in its present attempt, which is listed, and this piece of it is next.
abbrev pub WaitsFor : ScanView → Seat → Asked → Piece → Type 0
WaitsFor s seat asked p = (s.end ≡ None) × WaitsBy (seat_of s.request.access seat.function) s seat asked p

-- ---- ticks

-- the tick for which a call waits: it was asked again, and no piece of the present attempt came
abbrev pub call_due : Present → Option ℕ
call_due c = if nat_lt 1 c.stream.call.attempt && c.stream.have == 0 && is_none c.stream.ending then Some c.due else None

-- the call whose items are asked for: the get, list or child list, and where none is open the parents call
abbrev pub asked_due : Option Present → Option Present → Option ℕ
asked_due (Some i) parents = call_due i
asked_due None (Some o) = call_due o
asked_due None None = None

abbrev pub due_by : Option ScanValue → ScanView → Option ℕ
due_by None s = sooner (asked_due s.items s.parents) (due_of s.flight)
due_by (Some value) s = None

-- the least tick for which a call of the scan waits, none once it is decided
abbrev pub scan_due : ScanView → Option ℕ
scan_due s = due_by s.end s
