-- Books that answer list calls by leaving out items.
use Rattle.std.specs.Prelude.{◌≡◌, ℕ, Bool, List, filter, Option}
use Rattle.std.specs.List.{list_all}
use Rattle.sp_value.specs.declared.cell.Cell.{Cell}
use Rattle.sp_model.specs.Book.{Book}
use Rattle.sp_model.specs.SubsetKeys.{holds_of, list_key, SubsetKeysOnlyFilter}
use Rattle.sp_model.specs.declared.call.Condition.{Condition}
use Rattle.sp_model.specs.declared.call.Ending.{Ending}
use Rattle.sp_model.specs.declared.declaration.ColumnDecl.{ColumnDecl}
use Rattle.sp_model.specs.declared.declaration.ListDecl.{ListDecl}
use Rattle.sp_model.specs.declared.declaration.TableDecl.{TableDecl}

-- all of these conditions are true of the fields of an item
abbrev pub hold_of : List ColumnDecl → List Condition → Cell → Bool
hold_of columns conditions item = list_all (λ condition. holds_of columns condition item) conditions

-- the reply to each list call of a table is some items, by the parent, the version and the attempt, less those for which a condition isn't true
pub record FiltersItems (book : Book) (connection : List ℕ) (table : TableDecl) : Type 0 where
  pub items : ℕ → ℕ → Option Cell → List Cell
  pub ending : ℕ → ℕ → Option Cell → Ending
  pub replies : (version attempt : ℕ) (parent : Option Cell) (conditions : List Condition) → book.reply (list_key connection version table.name parent attempt conditions)
      ≡ record { items = filter (hold_of table.columns conditions) (items version attempt parent); ending = ending version attempt parent }

-- such a book keeps what subset keys promise, whichever keys are declared so
abbrev pub FilteringBookKeepsSubsetKeys : Type 0
FilteringBookKeepsSubsetKeys = (book : Book) (connection : List ℕ) (table : TableDecl) (d : ListDecl) → FiltersItems book connection table → SubsetKeysOnlyFilter book connection table d
