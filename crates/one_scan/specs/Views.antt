-- What is known of a scan.
use Rattle.std.specs.Prelude.{◌≡◌, ◌≤◌, ◌^◌, ℕ, Bool, List, length, slice_get, Option, Some, None, option_map}
use Rattle.sp_value.specs.declared.cell.Cell.{Cell}
use Rattle.sp_model.specs.Book.{Book}
use Rattle.sp_model.specs.Requests.{IsRequestOf}
use Rattle.sp_model.specs.Walk.{walk_at, scan_value, is_complete, is_steady}
use Rattle.sp_model.specs.declared.call.Version.{Version}
use Rattle.sp_model.specs.declared.call.Version.TheVariants.{Is, Bad}
use Rattle.sp_model.specs.declared.declaration.TableDecl.{TableDecl}
use Rattle.sp_model.specs.declared.outcome.ScanValue.{ScanValue}
use Rattle.sp_model.specs.declared.outcome.ScanValue.TheVariants as value
use Rattle.sp_model.specs.declared.outcome.Walk.{Walk}
use Rattle.sp_model.specs.declared.outcome.WalkState.{WalkState}
use Rattle.sp_model.specs.declared.scan.Cause.TheVariants.{BadVersion}
use Rattle.sp_model.specs.declared.scan.Mark.TheVariants.{Fresh}
use Rattle.sp_model.specs.declared.scan.ScanNote.{ScanNote}
use Rattle.sp_model.specs.declared.scan.ScanRequest.{ScanRequest}
use Rattle.decl_words.specs.BookTables.{book_table}
use Rattle.row_stream.specs.Streams.{Stream}
use Rattle.row_flight.specs.Flying.{InFlight, rows_of}
use Rattle.scan_laws.specs.Scans.{value_of}
use Rattle.scan_laws.specs.States.{Outer, Inner, Scan}
use Rattle.one_scan.specs.declared.scan.ScanEnd.{ScanEnd}
use Rattle.one_scan.specs.declared.scan.ScanEnd.TheVariants as end

-- a get, list, child list or parents call in its present attempt: what came of it, whether it is listed, the tick before which it isn't sent, and the generation of its seat
pub record Present : Type 0 where
  pub stream : Stream
  pub listed : Bool
  pub due : ℕ
  pub generation : ℕ

-- where a scan stands, as its laws speak of it, but for the rows in flight
pub record Standing : Type 0 where
  pub outer : Option Outer
  pub inner : Option Inner
  pub first : List Cell
  pub inside : List Cell
  pub waiting : List Cell
  pub now : WalkState
  pub end : Option Walk

-- what is asked of which table, at the version that was told at a tick; how many rows may be in flight; how the scan ends, once that is decided; of rows
-- whether no list, get or parents call was asked again, and whether all calls came to their ending; whether memory was wanting; where the scan stands; and its calls:
-- the get, list or child list whose items are asked for, the parents call, and those of the rows in flight
pub record ScanView : Type 0 where
  pub request : ScanRequest
  pub table : TableDecl
  pub version : Version
  pub asked : ℕ
  pub window : ℕ
  pub end : Option ScanValue
  pub steady : Bool
  pub complete : Bool
  pub wanting : Bool
  pub stands : Standing
  pub items : Option Present
  pub parents : Option Present
  pub flight : InFlight

-- where the scan stands with its rows in flight, as the laws of scans speak of it
abbrev pub scan_state : ScanView → Scan
scan_state s = record {
  outer = s.stands.outer;
  inner = s.stands.inner;
  first = s.stands.first;
  inside = s.stands.inside;
  flight = rows_of s.flight;
  waiting = s.stands.waiting;
  now = s.stands.now;
  end = s.stands.end;
}

-- the scan ended in rows
abbrev pub AreRows : Option ScanValue → Type 0
AreRows None = ⊥
AreRows (Some (value.Rows rows)) = Unit {0}
AreRows (Some (value.Failed row column cause)) = ⊥

-- the end is the value of the request by the book's table at the book's version; of rows it is known whether the walk was steady and complete
pub record IsOfScan (book : Book) (s : ScanView) : Type 0 where
  pub of_book : book_table book s.request.connection s.request.table ≡ Some s.table
  pub version : s.version ≡ book.version s.request.connection s.asked
  pub value : (v : ScanValue) → s.end ≡ Some v → scan_value book s.table s.request s.version ≡ Some v
  pub steady : AreRows s.end → s.steady ≡ is_steady (walk_at book s.table s.request s.version)
  pub complete : AreRows s.end → s.complete ≡ is_complete (walk_at book s.table s.request s.version)

-- the request is made of the table, the tick is in range, the end is where the scan stands, and each row has one cell for each column of the request
pub record IsScanForm (s : ScanView) : Type 0 where
  pub made : IsRequestOf s.table s.request
  pub tick : s.asked ≤ 2 ^ 62
  pub end : s.end ≡ value_of s.stands.end
  pub cells : (rows : List (List Cell)) (k : ℕ) (row : List Cell) → s.end ≡ Some (value.Rows rows) → slice_get rows k ≡ Some row → length row ≡ length s.request.columns

-- the same scan, some pieces later: its end stays once it has one
pub record SameScan (before after : ScanView) : Type 0 where
  pub request : after.request ≡ before.request
  pub table : after.table ≡ before.table
  pub version : after.version ≡ before.version
  pub asked : after.asked ≡ before.asked
  pub window : after.window ≡ before.window
  pub end : (v : ScanValue) → before.end ≡ Some v → after.end ≡ Some v

-- the end at the beginning: a bad version fails before the first row
abbrev pub end_at : Version → Option ScanValue
end_at (Is v) = None
end_at (Bad text) = Some (value.Failed 0 None (BadVersion text))

-- the note of the scan, whose rows are taken as it was asked
abbrev pub fresh_note : ScanView → ScanNote
fresh_note s = record { request = s.request; asked = s.asked; at = s.asked; version = s.version; mark = Fresh }

-- the end, as it is lent
abbrev pub IsShown : Option ScanValue → Option ScanEnd → Type 0
IsShown None None = Unit {0}
IsShown (Some (value.Rows rows)) (Some end.Rows) = Unit {0}
IsShown (Some (value.Failed row column cause)) (Some (end.Failed r c x)) = (row ≡ r) × (column ≡ option_map (λ n. n.now) c) × (cause ≡ x.now)
IsShown _ _ = ⊥
