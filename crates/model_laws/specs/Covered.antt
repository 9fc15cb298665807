-- A kept scan that covers a request has the rows of the request's own scan.
use Rattle.std.specs.Prelude.{◌≡◌, ℕ, Bool, true, false, ◌&&◌, ◌||◌, not, List, Option, Some, None, is_none, bytes_eq}
use Rattle.std.specs.List.{list_all}
use Rattle.sp_value.specs.declared.cell.Cell.{Cell}
use Rattle.sp_model.specs.Book.{Book}
use Rattle.sp_model.specs.Conditions.{is_canonical}
use Rattle.sp_model.specs.Calls.{fit_keys}
use Rattle.sp_model.specs.Covers.{is_get, same_access, covers, rows_from}
use Rattle.sp_model.specs.Keys.{list_access}
use Rattle.sp_model.specs.Names.{has_name, are_distinct}
use Rattle.sp_model.specs.Requests.{is_positive}
use Rattle.sp_model.specs.RowOf.{names_of_columns, columns_named}
use Rattle.sp_model.specs.Settling.{answers_of}
use Rattle.sp_model.specs.SubsetKeys.{is_subset, SubsetKeysOnlyFilter}
use Rattle.sp_model.specs.Walk.{scan_walk, scan_value, is_complete, is_steady}
use Rattle.sp_model.specs.declared.call.Version.TheVariants.{Is}
use Rattle.sp_model.specs.declared.declaration.ListDecl.{ListDecl}
use Rattle.sp_model.specs.declared.declaration.TableDecl.{TableDecl}
use Rattle.sp_model.specs.declared.outcome.ScanValue.TheVariants.{Rows}
use Rattle.sp_model.specs.declared.scan.ScanRequest.{ScanRequest}

-- a request as it is made of a table: its conditions are in canonical order and on columns that it asks for, and its limit, if any, is at least 1
abbrev pub is_asked_of : TableDecl → ScanRequest → Bool
is_asked_of table request =
    is_canonical request.conditions
    && list_all (λ condition. has_name (names_of_columns (columns_named request.columns table.columns)) condition.column) request.conditions
    && is_positive request.limit

-- every key of the list on this column is declared to filter only, and the column is a field of the item
abbrev pub only_filters : TableDecl → ListDecl → List ℕ → Bool
only_filters table d name =
    list_all (λ key. not (bytes_eq key.column name) || is_subset key.matching) d.keys
    && list_all (λ column. not (bytes_eq column.name name) || is_none column.function) table.columns

-- a request as it is made of a list: by the list or by its parents, as it declares, with conditions that are sent on its keys and meet them, and the columns that the request
-- names as subset only filter
abbrev pub is_asked_of_list : TableDecl → ListDecl → ScanRequest → Bool
is_asked_of_list table d request =
    same_access request.access (list_access d.parent) && fit_keys d.keys request.conditions && list_all (only_filters table d) request.subset

-- the table has a list, both requests are made of it, and its subset keys only filter
abbrev pub OnlyFilters : Book → TableDecl → ScanRequest → ScanRequest → Option ListDecl → Type 0
OnlyFilters book table kept request None = ⊥
OnlyFilters book table kept request (Some d) =
    SubsetKeysOnlyFilter book request.connection table d × ((is_asked_of_list table d kept && is_asked_of_list table d request) ≡ true)

-- where subset keys only filter, and a steady scan that ended in rows covers a request, the scan of the request at the same version gives the rows of
-- the kept scan in the request's columns, without those for which a further condition isn't true, cut to the request's limit
abbrev pub CoveredScanGivesTheRows : Type 0
CoveredScanGivesTheRows = (book : Book) (table : TableDecl) (kept request : ScanRequest) (version : ℕ) (rows : List (List Cell))
    → are_distinct (names_of_columns table.columns) ≡ true
    → (is_asked_of table kept && is_asked_of table request) ≡ true
    → (is_get request.access ≡ false → OnlyFilters book table kept request table.list)
    → is_steady (scan_walk table kept (answers_of book kept.connection version)) ≡ true
    → covers kept (is_complete (scan_walk table kept (answers_of book kept.connection version))) request ≡ true
    → scan_value book table kept (Is version) ≡ Some (Rows rows)
    → scan_value book table request (Is version) ≡ Some (Rows (rows_from table kept rows request))
