-- Calls that are listed.
use Rattle.std.specs.Prelude.{◌≡◌, ◌<◌, ℕ, suc, true, false, List, [], ◌∷◌, ◌++◌, length, map, Some, slice_get}
use Rattle.sp_model.specs.RowOf.{columns_named}
use Rattle.sp_model.specs.Settling.{Answers}
use Rattle.sp_model.specs.declared.declaration.TableDecl.{TableDecl}
use Rattle.sp_model.specs.declared.scan.ScanRequest.{ScanRequest}
use Rattle.sp_model.specs.declared.scan.Seat.{Seat}
use Rattle.scan_laws.specs.Flights.{AreApart, RowAgrees}
use Rattle.scan_laws.specs.Reaching.{Made}
use Rattle.scan_laws.specs.Scans.{AllAgree}
use Rattle.hydrate_graph.specs.Graphs.{Plan}
use Rattle.row_pool.specs.Pools.{Pool, shown}
use Rattle.row_pool.specs.declared.key.Key.{Key}
use Rattle.row_flight.specs.Attempts.{listed_attempt}
use Rattle.row_flight.specs.Flying.{InFlight, Seated, IsOf, Sits, key_at, rows_of}
use Rattle.row_flight.specs.Hearing.{AllHear, RowHears, RowGoes, Keeps}
use Rattle.row_flight.specs.Pooled.{seated, IsSound, IsFlight}
use Rattle.row_flight.specs.Rows.{flight_row, attempt_of, call_of, is_open, AreListed, IsRow}
use Rattle.row_flight.specs.declared.frame.CallFrame.{CallFrame}
use Rattle.row_flight.specs.declared.frame.Wanted.{Wanted}
use Rattle.row_flight.specs.declared.row.RowCalls.{RowCalls}

-- the calls with their attempts
abbrev pub made_of : List Wanted → List Made
made_of jobs = map (λ w. (w.call.call, w.call.attempt)) jobs

-- the present call of a seat's function for a row, and its due tick
pub record IsCallOf (frame : CallFrame) (seat : Seat) (row : RowCalls) (w : Wanted) : Type 0 where
  pub seat_is : w.seat ≡ seat
  pub asked : call_of frame.table row seat.function ≡ Some w.call.call
  pub attempt : w.call.attempt ≡ suc (attempt_of row seat.function).tries
  pub due : w.due ≡ (attempt_of row seat.function).due
  pub connection : w.call.connection ≡ frame.connection
  pub version : w.call.version ≡ frame.version

-- it is listed, by the scan of this number, for the row of this key
pub record IsRowJob (frame : CallFrame) (scan : ℕ) (key : Key) (row : RowCalls) (w : Wanted) : Type 0 where
  pub key_is : key_at w.seat ≡ key
  pub scan_is : w.seat.scan ≡ scan
  pub listed : is_open row w.seat.function ≡ true
  pub call : IsCallOf frame w.seat row w

pub record IsJobOf (scan : ℕ) (f : InFlight) (w : Wanted) : Type 0 where
  pub row : RowCalls
  pub sits : Sits f w.seat row
  pub job : IsRowJob f.frame scan (key_at w.seat) row w

-- no row has a call that is ready and not listed
abbrev pub IsAllListed : InFlight → Type 0
IsAllListed f = (place : ℕ) (s : Seated) → slice_get f.rows place ≡ Some s → AreListed s.row

-- rows whose calls differ at most in whether they are listed
pub record DiffersInListed (old new : RowCalls) : Type 0 where
  pub graph : new.graph ≡ old.graph
  pub attempts : (k : ℕ) → listed_attempt (attempt_of new k) ≡ listed_attempt (attempt_of old k)

abbrev pub DifferInListed : List Seated → List Seated → Type 0
DifferInListed [] [] = Unit {0}
DifferInListed (s ∷ ss) (t ∷ ts) = (t.key ≡ s.key) × DiffersInListed s.row t.row × DifferInListed ss ts
DifferInListed _ _ = ⊥

-- some more calls of a row are listed, and come to the end of a list
pub record RowLists (frame : CallFrame) (scan : ℕ) (key : Key) (old new : RowCalls) (before after : List Wanted) : Type 0 where
  pub more : List Wanted
  pub grows : after ≡ before ++ more
  pub graph : new.graph ≡ old.graph
  pub sound : IsRow new
  pub stays : (k : ℕ) → is_open old k ≡ true → attempt_of new k ≡ attempt_of old k
  pub differs : (k : ℕ) → listed_attempt (attempt_of new k) ≡ listed_attempt (attempt_of old k)
  pub jobs : (place : ℕ) (w : Wanted) → slice_get more place ≡ Some w → IsRowJob frame scan key new w
  pub keeps : (table : TableDecl) (request : ScanRequest) (answers : Answers) → frame.table ≡ table.name → old.graph.plan.functions ≡ table.functions → old.graph.plan.columns ≡ columns_named request.columns table.columns
      → IsSound old.graph.plan → AreApart table → RowAgrees table answers (flight_row old) → RowHears table answers old → RowGoes table request answers old new (made_of more)

-- some more calls of the rows are listed, and come to the end of a list; the calls that were listed before still are
pub record Lists (scan : ℕ) (old new : InFlight) (before after : List Wanted) : Type 0 where
  pub more : List Wanted
  pub grows : after ≡ before ++ more
  pub plan : new.plan ≡ old.plan
  pub frame : new.frame ≡ old.frame
  pub window : new.window ≡ old.window
  pub differ : DifferInListed old.rows new.rows
  pub stays : (w : Wanted) → IsJobOf scan old w → IsJobOf scan new w
  pub jobs : (place : ℕ) (w : Wanted) → slice_get more place ≡ Some w → IsJobOf scan new w
  pub keeps : (table : TableDecl) (request : ScanRequest) (answers : Answers) → IsOf table request old → AreApart table → AllAgree table answers (rows_of old) → AllHear table answers old.rows
      → Keeps table request answers old.rows new.rows (made_of more)

-- for private clauses: calls of the rows of a pool are listed
abbrev pub PoolLists : Plan → CallFrame → ℕ → ℕ → ℕ → List Key → Pool RowCalls → Pool RowCalls → List Wanted → List Wanted → Type 0
PoolLists plan frame window number scan keys old new before after =
    IsFlight plan window number new keys
    × Lists scan (record { plan = plan; frame = frame; window = window; rows = seated old keys }) (record { plan = plan; frame = frame; window = window; rows = seated new keys }) before after

-- for private clauses: no call of the first n rows is ready and not listed
abbrev pub RowsListed : Pool RowCalls → List Key → ℕ → Type 0
RowsListed p keys n = (place : ℕ) (key : Key) (row : RowCalls) → place < n → slice_get keys place ≡ Some key → shown p key ≡ Some row → AreListed row
