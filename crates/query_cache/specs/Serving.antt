-- The rows that a kept scan gives to a request.
use Rattle.std.specs.Prelude.{◌≡◌, ℕ, Bool, false, List, map, filter, Some}
use Rattle.std.specs.List.{list_all, zip}
use Rattle.sp_value.specs.Names.{value_under}
use Rattle.sp_value.specs.Truth.{truth}
use Rattle.sp_value.specs.declared.cell.Cell.{Cell}
use Rattle.sp_model.specs.Book.{Book}
use Rattle.sp_model.specs.Covers.{is_get, further, cut}
use Rattle.sp_model.specs.Fields.{or_null}
use Rattle.sp_model.specs.Requests.{IsRequestOf}
use Rattle.sp_model.specs.Walk.{is_yes, scan_value}
use Rattle.sp_model.specs.declared.call.Condition.{Condition}
use Rattle.sp_model.specs.declared.declaration.TableDecl.{TableDecl}
use Rattle.sp_model.specs.declared.outcome.ScanValue.TheVariants.{Rows}
use Rattle.sp_model.specs.declared.scan.ScanRequest.{ScanRequest}
use Rattle.decl_words.specs.BookTables.{book_table}
use Rattle.model_laws.specs.Covered.{OnlyFilters}
use Rattle.sp_world.specs.declared.kept_scan.KeptScan.{KeptScan}

-- the cell under a name, null where there is none
abbrev pub cell_under : List (List ℕ) → List Cell → List ℕ → Cell
cell_under names cells name = or_null (value_under name (zip names cells))

abbrev pub is_true_of : List (List ℕ) → List Cell → Condition → Bool
is_true_of names cells condition = is_yes (truth condition.operator (cell_under names cells condition.column) condition.value)

-- each of the conditions is true of the row
abbrev pub are_true_of : List Condition → List (List ℕ) → List Cell → Bool
are_true_of conditions names cells = list_all (is_true_of names cells) conditions

-- the cells under these names
abbrev pub in_names : List (List ℕ) → List (List ℕ) → List Cell → List Cell
in_names from to cells = map (cell_under from cells) to

-- the kept rows for which each further condition is true, in the request's columns, cut to its limit
unfoldable pub served_rows : KeptScan → ScanRequest → List (List Cell)
served_rows kept request =
    cut request.limit
    (map (in_names kept.note.request.columns request.columns) (filter (are_true_of (further kept.note.request request) kept.note.request.columns) kept.rows))

-- the rows are the request's own value at the kept scan's version, by the table of its name in the book, where the request is one of that table
-- and its list keys that are declared to filter only do so
abbrev pub AreItsOwn : Book → KeptScan → ScanRequest → List (List Cell) → Type 0
AreItsOwn book kept request rows =
    (table : TableDecl)
    → book_table book request.connection request.table ≡ Some table
    → IsRequestOf table request
    → (is_get request.access ≡ false → OnlyFilters book table kept.note.request request table.list)
    → scan_value book table request kept.note.version ≡ Some (Rows rows)
