-- Finished scans that may serve again.
use Rattle.std.specs.Prelude.{◌≡◌, ℕ, ◌≤◌, ◌^◌, true, List, length, Some, slice_get}
use Rattle.sp_value.specs.declared.cell.Cell.{Cell}
use Rattle.sp_model.specs.Book.{Book}
use Rattle.sp_model.specs.Requests.{IsRequestOf}
use Rattle.sp_model.specs.Walk.{walk_at, scan_value, is_complete, is_steady}
use Rattle.sp_model.specs.declared.declaration.TableDecl.{TableDecl}
use Rattle.sp_model.specs.declared.outcome.ScanValue.TheVariants.{Rows}
use Rattle.decl_words.specs.BookTables.{book_table}
use Rattle.sp_world.specs.declared.kept_scan.KeptScan.{KeptScan}

-- each row has one cell for each column of the note's request, and the note's ticks are at most 2^62
abbrev pub IsKeptForm : KeptScan → Type 0
IsKeptForm kept =
    ((k : ℕ) (row : List Cell) → slice_get kept.rows k ≡ Some row → length row ≡ length kept.note.request.columns)
    × (kept.note.asked ≤ 2 ^ 62)
    × (kept.note.at ≤ 2 ^ 62)

-- the request is one of the table; the rows are what it gives at the note's version, by a steady walk, which came to the ending of its
-- calls exactly where the scan is complete
pub record IsKeptWalk (book : Book) (table : TableDecl) (kept : KeptScan) : Type 0 where
  pub made_of : IsRequestOf table kept.note.request
  pub value : scan_value book table kept.note.request kept.note.version ≡ Some (Rows kept.rows)
  pub steady : is_steady (walk_at book table kept.note.request kept.note.version) ≡ true
  pub complete : kept.complete ≡ is_complete (walk_at book table kept.note.request kept.note.version)

-- the note's version is the book's at the tick at which it was asked, and the rows are those of the book's table of the request's name
pub record IsKeptValue (book : Book) (kept : KeptScan) : Type 0 where
  pub version : kept.note.version ≡ book.version kept.note.request.connection kept.note.asked
  pub walk : (table : TableDecl) → book_table book kept.note.request.connection kept.note.request.table ≡ Some table → IsKeptWalk book table kept
