-- On a whole book nothing waits.
use Rattle.std.specs.Prelude.{◌≡◌, ℕ, true, List, is_some}
use Rattle.std.specs.List.{list_all}
use Rattle.sp_value.specs.declared.cell.Cell.{Cell}
use Rattle.sp_model.specs.Book.{Book}
use Rattle.sp_model.specs.Hydration.{hydrated}
use Rattle.sp_model.specs.Rests.{rests, column_rests}
use Rattle.sp_model.specs.RowOf.{columns_named}
use Rattle.sp_model.specs.Settling.{answers_of}
use Rattle.sp_model.specs.Walk.{scan_value}
use Rattle.sp_model.specs.declared.call.Version as version
use Rattle.sp_model.specs.declared.declaration.TableDecl.{TableDecl}
use Rattle.sp_model.specs.declared.scan.ScanRequest.{ScanRequest}

-- what a function gives for an item is known
abbrev pub WholeBookHydrates : Type 0
WholeBookHydrates = (book : Book) (table : TableDecl) (connection : List ℕ) (version : ℕ) (item : Cell) (name : List ℕ)
    → rests table.functions name ≡ true → is_some (hydrated table (answers_of book connection version) item name) ≡ true

-- a scan has a value
abbrev pub WholeBookHasValues : Type 0
WholeBookHasValues = (book : Book) (table : TableDecl) (request : ScanRequest) (version : version.Version)
    → list_all (column_rests table.functions) (columns_named request.columns table.columns) ≡ true → is_some (scan_value book table request version) ≡ true
