-- What was heard of the calls of rows in flight, against what is answered.
use Rattle.std.specs.Prelude.{◌≡◌, ℕ, suc, ◌+◌, Bool, false, List, [], ◌∷◌, length, Option, Some, None, slice_get}
use Rattle.sp_value.specs.declared.cell.Cell.{Cell}
use Rattle.sp_model.specs.Hydration.{results_of, find_function}
use Rattle.sp_model.specs.Settling.{Seen, Answers}
use Rattle.sp_model.specs.declared.call.Call.TheVariants as call
use Rattle.sp_model.specs.declared.call.Piece.{Piece}
use Rattle.sp_model.specs.declared.call.Piece.TheVariants as piece
use Rattle.sp_model.specs.declared.declaration.FunctionDecl.{FunctionDecl}
use Rattle.sp_model.specs.declared.declaration.TableDecl.{TableDecl}
use Rattle.sp_model.specs.declared.outcome.Results.TheVariants.{Given}
use Rattle.sp_model.specs.declared.scan.ScanRequest.{ScanRequest}
use Rattle.scan_laws.specs.Counts.{count}
use Rattle.scan_laws.specs.Flights.{status, RowKeeps}
use Rattle.scan_laws.specs.Reaching.{Made}
use Rattle.scan_laws.specs.Scans.{items_of, flight_listed, AllAgree}
use Rattle.scan_laws.specs.States.{FlightRow}
use Rattle.row_flight.specs.Flying.{Seated, rows_in}
use Rattle.row_flight.specs.Rows.{flight_row, item_of}
use Rattle.row_flight.specs.declared.row.RowCalls.{RowCalls}

-- the piece is one of what is known of a reply
abbrev pub IsPieceOfSeen : Seen → Piece → Type 0
IsPieceOfSeen seen (piece.Item place x) = slice_get seen.items place ≡ Some x
IsPieceOfSeen seen (piece.Ending count ending) = (count ≡ length seen.items) × (seen.ending ≡ Some ending)

-- the item that came of a function's present attempt is the first of its reply; of an attempt that isn't listed nothing came
pub record Hears (table : TableDecl) (answers : Answers) (row : FlightRow) (came : List ℕ → Option Cell) : Type 0 where
  pub first : (f : FunctionDecl) (results : List (List ℕ × Cell)) (x : Cell) → find_function f.name table.functions ≡ Some f → results_of (status table row) f.depends ≡ Given results → came f.name ≡ Some x
      → slice_get (answers (call.Hydrate table.name f.name row.item results) (suc (row.tries f.name))).items 0 ≡ Some x
  pub unlisted : (f : FunctionDecl) → find_function f.name table.functions ≡ Some f → row.listed f.name ≡ false → came f.name ≡ None

abbrev pub RowHears : TableDecl → Answers → RowCalls → Type 0
RowHears table answers row = Hears table answers (flight_row row) (item_of row)

abbrev pub AllHear : TableDecl → Answers → List Seated → Type 0
AllHear table answers [] = Unit {0}
AllHear table answers (s ∷ rows) = RowHears table answers s.row × AllHear table answers rows

-- a row goes on agreeing with the answers, and lists these calls
pub record RowGoes (table : TableDecl) (request : ScanRequest) (answers : Answers) (row next : RowCalls) (added : List Made) : Type 0 where
  pub keeps : RowKeeps table request answers (flight_row row) (flight_row next) added
  pub hears : RowHears table answers next

-- the rows go on agreeing with the answers, and list these calls
pub record Keeps (table : TableDecl) (request : ScanRequest) (answers : Answers) (old new : List Seated) (added : List Made) : Type 0 where
  pub agree : AllAgree table answers (rows_in new)
  pub hear : AllHear table answers new
  pub items : items_of (rows_in new) ≡ items_of (rows_in old)
  pub listed : (p : Made → Bool) → count p (flight_listed table request (rows_in new)) ≡ count p (flight_listed table request (rows_in old)) + count p added
