-- The rows in flight, in order, and the calls that they wait for.
use Rattle.std.specs.Prelude.{◌≡◌, ℕ, ◌==◌, Bool, ◌&&◌, List, [], ◌∷◌, ◌++◌, map, Option, Some, None, slice_get, if◌then◌else◌}
use Rattle.sp_value.specs.declared.cell.Cell.{Cell}
use Rattle.sp_model.specs.RowOf.{columns_named, row_of}
use Rattle.sp_model.specs.declared.call.CallKey.{CallKey}
use Rattle.sp_model.specs.declared.call.Piece.{Piece}
use Rattle.sp_model.specs.declared.declaration.TableDecl.{TableDecl}
use Rattle.sp_model.specs.declared.scan.ScanRequest.{ScanRequest}
use Rattle.sp_model.specs.declared.scan.Seat.{Seat}
use Rattle.hydrate_graph.specs.Graphs.{Plan, Graph, rules_in, row_so_far}
use Rattle.row_pool.specs.declared.key.Key.{Key}
use Rattle.scan_laws.specs.Flights.{status}
use Rattle.scan_laws.specs.States.{FlightRow}
use Rattle.row_flight.specs.Rows.{flight_row, begun, RowAwaits, row_hears}
use Rattle.row_flight.specs.declared.frame.CallFrame.{CallFrame}
use Rattle.row_flight.specs.declared.row.RowCalls.{RowCalls}

-- a row under the key of its slot
pub record Seated : Type 0 where
  pub key : Key
  pub row : RowCalls

-- the plan that the rows share, what their calls share, how many rows there may be, and the rows in order
pub record InFlight : Type 0 where
  pub plan : Plan
  pub frame : CallFrame
  pub window : ℕ
  pub rows : List Seated

-- the rows, as the laws of a scan speak of them
abbrev pub rows_in : List Seated → List FlightRow
rows_in rows = map (λ s. flight_row s.row) rows

abbrev pub rows_of : InFlight → List FlightRow
rows_of f = rows_in f.rows

-- the rows are those of a request's scan
pub record IsOf (table : TableDecl) (request : ScanRequest) (f : InFlight) : Type 0 where
  pub name : f.frame.table ≡ table.name
  pub functions : f.plan.functions ≡ table.functions
  pub rules : f.plan.rules ≡ rules_in table table.functions
  pub columns : f.plan.columns ≡ columns_named request.columns table.columns

-- the row of an item of which nothing is known stands at the end, under a key of its own
pub record Puts (old new : InFlight) (item : Cell) : Type 0 where
  pub key : Key
  pub own : (place : ℕ) (s : Seated) → slice_get old.rows place ≡ Some s → s.key ≡ key → ⊥
  pub is : new ≡ record old { rows = old.rows ++ record { key = key; row = begun old.plan item } ∷ [] }

abbrev pub first_graph : List Seated → Option Graph
first_graph [] = None
first_graph (s ∷ rows) = Some s.row.graph

abbrev pub key_at : Seat → Key
key_at seat = record { slot = seat.slot; generation = seat.generation }

-- the first row's end is that of its graph
abbrev pub FirstStands : TableDecl → ScanRequest → List Seated → Option Graph → Type 0
FirstStands table request (s ∷ rows) (Some g) =
    (row_of (status table (flight_row s.row)) (columns_named request.columns table.columns) (flight_row s.row).item ≡ row_so_far g) × (g.plan.columns ≡ columns_named request.columns table.columns) × (g.item ≡ s.row.graph.item)
FirstStands table request (s ∷ rows) None = ⊥
FirstStands table request [] (Some g) = ⊥
FirstStands table request [] None = Unit {0}

-- this row sits at the seat
abbrev pub Sits : InFlight → Seat → RowCalls → Type 0
Sits f seat row = (place : ℕ) × (slice_get f.rows place ≡ Some (record { key = key_at seat; row = row }))

-- the call is waited for at the seat, and this piece of it is next
pub record IsAwaited (f : InFlight) (seat : Seat) (asked : CallKey) (p : Piece) : Type 0 where
  pub row : RowCalls
  pub sits : Sits f seat row
  pub awaits : RowAwaits f.frame.table row seat.function asked.call asked.attempt p
  pub connection : asked.connection ≡ f.frame.connection
  pub version : asked.version ≡ f.frame.version

abbrev pub is_at : Key → Seat → Bool
is_at key seat = key.slot == seat.slot && key.generation == seat.generation

abbrev pub hears_at : Seat → Piece → ℕ → Seated → Seated
hears_at seat p tick s = if is_at s.key seat then record { key = s.key; row = row_hears s.row seat.function p tick } else s

-- the row at the seat takes a piece in, at this tick
abbrev pub heard_at : InFlight → Seat → Piece → ℕ → InFlight
heard_at f seat p tick = record f { rows = map (hears_at seat p tick) f.rows }
