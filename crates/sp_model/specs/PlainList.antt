-- The scan of a plain table: its columns are fields of the item, and its list has no keys, parent or rules.
use Rattle.std.specs.Prelude.{◌≡◌, ℕ, suc, ◌==◌, Bool, true, false, ◌&&◌, length, List, [], ◌∷◌, Option, Some, None, is_none, if◌then◌else◌}
use Rattle.std.specs.List.{list_all}
use Rattle.sp_value.specs.declared.cell.Cell.{Cell}
use Rattle.sp_model.specs.Book.{Book}
use Rattle.sp_model.specs.Fields.{field}
use Rattle.sp_model.specs.RowOf.{checked, columns_named}
use Rattle.sp_model.specs.Walk.{scan_value, is_reached}
use Rattle.sp_model.specs.declared.call.Call.TheVariants as call
use Rattle.sp_model.specs.declared.call.CallKey.{CallKey}
use Rattle.sp_model.specs.declared.call.Ending.{Ending}
use Rattle.sp_model.specs.declared.call.Ending.TheVariants.{End, Error}
use Rattle.sp_model.specs.declared.call.Reply.{Reply}
use Rattle.sp_model.specs.declared.call.Version.TheVariants.{Is}
use Rattle.sp_model.specs.declared.declaration.ColumnDecl.{ColumnDecl}
use Rattle.sp_model.specs.declared.declaration.FunctionDecl.{FunctionDecl}
use Rattle.sp_model.specs.declared.declaration.ListDecl.{ListDecl}
use Rattle.sp_model.specs.declared.declaration.Rule.{Rule}
use Rattle.sp_model.specs.declared.declaration.TableDecl.{TableDecl}
use Rattle.sp_model.specs.declared.outcome.Outcome.{Outcome}
use Rattle.sp_model.specs.declared.outcome.Outcome.TheVariants.{Gave, Fails}
use Rattle.sp_model.specs.declared.outcome.Row.{Row}
use Rattle.sp_model.specs.declared.outcome.Row.TheVariants.{Whole, Broken}
use Rattle.sp_model.specs.declared.outcome.ScanValue.{ScanValue}
use Rattle.sp_model.specs.declared.outcome.ScanValue.TheVariants.{Rows, Failed}
use Rattle.sp_model.specs.declared.scan.Access.TheVariants as access
use Rattle.sp_model.specs.declared.scan.Cause.TheVariants as cause
use Rattle.sp_model.specs.declared.scan.ScanRequest.{ScanRequest}

-- a list without keys, parent or rules
abbrev pub is_plain_list : Option ListDecl → Bool
is_plain_list None = false
is_plain_list (Some d) = (length d.keys == 0) && is_none d.parent && is_none d.ignore && is_none d.retry

abbrev pub has_no_function : ColumnDecl → Bool
has_no_function column = is_none column.function

abbrev pub has_no_rule : FunctionDecl → Bool
has_no_rule function = is_none function.ignore && is_none function.retry

abbrev pub is_without_rule : Rule → Bool
is_without_rule rule = is_none rule.ignore && is_none rule.retry

-- a table whose rows are the items of one call: a list without keys or parent, no get, no column by a function, and no rules anywhere
abbrev pub is_plain : TableDecl → Bool
is_plain table =
    is_none table.get && is_plain_list table.list && list_all has_no_function table.columns && list_all has_no_rule table.functions
    && is_none table.ignore && is_none table.retry && is_without_rule table.plugin

-- the request for some of its columns, and for some of its rows
abbrev pub plain_request : List ℕ → List ℕ → List (List ℕ) → Option ℕ → ScanRequest
plain_request connection name columns limit = record {
  connection = connection;
  table = name;
  access = access.List;
  conditions = [];
  columns = columns;
  subset = [];
  limit = limit;
}

-- the one call that is made for it
abbrev pub plain_key : List ℕ → ℕ → List ℕ → CallKey
plain_key connection version name = record { connection = connection; version = version; call = call.List name [] None; attempt = 1 }

abbrev pub plain_cell : List ℕ → Outcome → Row → Row
plain_cell name (Fails cause) rest = Broken name cause
plain_cell name (Gave x) (Broken column cause) = Broken column cause
plain_cell name (Gave x) (Whole xs) = Whole (x ∷ xs)

-- the fields of an item, or the first column whose field is of another kind
abbrev pub plain_row : List ColumnDecl → Cell → Row
plain_row [] item = Whole []
plain_row (column ∷ columns) item = plain_cell column.name (checked column.kind (field column.field item)) (plain_row columns item)

abbrev pub plain_end : List ℕ → ℕ → Ending → ScanValue
plain_end function number End = Rows []
plain_end function number (Error text) = Failed number None (cause.Error function 1 text)

abbrev pub plain_next : ℕ → Row → ScanValue → ScanValue
plain_next number (Broken column cause) rest = Failed number (Some column) cause
plain_next number (Whole cells) (Rows rows) = Rows (cells ∷ rows)
plain_next number (Whole cells) (Failed row column cause) = Failed row column cause

-- the rows of items in order, after so many of them, up to the limit; and then the ending
abbrev pub plain_rows : List ColumnDecl → List ℕ → Option ℕ → ℕ → List Cell → Ending → ScanValue
plain_rows columns function limit before [] ending = plain_end function (suc before) ending
plain_rows columns function limit before (item ∷ items) ending =
    plain_next (suc before) (plain_row columns item)
    (if is_reached limit (suc before) then Rows [] else plain_rows columns function limit (suc before) items ending)

abbrev pub plain_value : List ColumnDecl → List ℕ → Option ℕ → Reply → ScanValue
plain_value columns function limit reply = plain_rows columns function limit 0 reply.items reply.ending

-- the scan of a plain table is its items in order
abbrev pub PlainListIsItsItems : Type 0
PlainListIsItsItems = (book : Book) (connection : List ℕ) (table : TableDecl) (list : ListDecl) (columns : List (List ℕ)) (limit : Option ℕ) (version : ℕ)
    → is_plain table ≡ true → table.list ≡ Some list
    → scan_value book table (plain_request connection table.name columns limit) (Is version)
    ≡ Some (plain_value (columns_named columns table.columns) list.function limit (book.reply (plain_key connection version table.name)))
