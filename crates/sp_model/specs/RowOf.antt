-- The row of an item.
use Rattle.std.specs.Prelude.{ℕ, List, [], ◌∷◌, filter, map, Option, Some, None, if◌then◌else◌}
use Rattle.sp_value.specs.declared.cell.Cell.{Cell}
use Rattle.sp_value.specs.declared.kind.Kind.{Kind}
use Rattle.sp_model.specs.Fields.{field, is_of_kind}
pub use Rattle.sp_model.specs.Names.{has_name}
use Rattle.sp_model.specs.declared.declaration.ColumnDecl.{ColumnDecl}
use Rattle.sp_model.specs.declared.outcome.Outcome.{Outcome}
use Rattle.sp_model.specs.declared.outcome.Outcome.TheVariants.{Gave, Fails}
use Rattle.sp_model.specs.declared.outcome.Row.{Row}
use Rattle.sp_model.specs.declared.outcome.Row.TheVariants.{Whole, Broken}
use Rattle.sp_model.specs.declared.scan.Cause.TheVariants.{BadValue}

abbrev pub names_of_columns : List ColumnDecl → List (List ℕ)
names_of_columns columns = map (λ column. column.name) columns

-- the columns of these names, in the order of the table
abbrev pub columns_named : List (List ℕ) → List ColumnDecl → List ColumnDecl
columns_named names columns = filter (λ column. has_name names column.name) columns

-- a value of the column's kind, or a bad value
abbrev pub checked : Kind → Cell → Outcome
checked kind x = if is_of_kind kind x then Gave x else Fails (BadValue x)

abbrev pub column_of : ColumnDecl → Option Outcome → Option Outcome
column_of column None = None
column_of column (Some (Fails cause)) = Some (Fails cause)
column_of column (Some (Gave x)) = Some (checked column.kind (field column.field x))

abbrev pub source_of : (List ℕ → Option Outcome) → Cell → Option (List ℕ) → Option Outcome
source_of gives item None = Some (Gave item)
source_of gives item (Some function) = gives function

-- a column's value: its field of the item or of what its function gives
abbrev pub column_value : (List ℕ → Option Outcome) → Cell → ColumnDecl → Option Outcome
column_value gives item column = column_of column (source_of gives item column.function)

abbrev pub with_cell : List ℕ → Option Outcome → Option Row → Option Row
with_cell name None rest = None
with_cell name (Some (Fails cause)) rest = Some (Broken name cause)
with_cell name (Some (Gave x)) None = None
with_cell name (Some (Gave x)) (Some (Broken column cause)) = Some (Broken column cause)
with_cell name (Some (Gave x)) (Some (Whole xs)) = Some (Whole (x ∷ xs))

-- the row of an item, where `gives` says what functions give: its cells, or its first failing column
abbrev pub row_of : (List ℕ → Option Outcome) → List ColumnDecl → Cell → Option Row
row_of gives [] item = Some (Whole [])
row_of gives (column ∷ columns) item = with_cell column.name (column_value gives item column) (row_of gives columns item)
