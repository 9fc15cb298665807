-- What holds of each table of a declaration that is accepted.
use Rattle.std.specs.Prelude.{◌≡◌, ℕ, true, false, List, Some}
use Rattle.std.specs.List.{list_all}
use Rattle.sp_model.specs.Book.{Book}
use Rattle.sp_model.specs.declared.declaration.TableDecl.{TableDecl}
use Rattle.decl_words.specs.BookTables.{book_table}
use Rattle.sp_model.specs.RowOf.{names_of_columns}
use Rattle.sp_model.specs.Hydration.{names_of_functions}
use Rattle.decl_words.specs.Limits.{rule_fits, table_fits}
use Rattle.decl_words.specs.Order.{CanRun}
use Rattle.decl_words.specs.Refusals.{has_repeat, has_unknown, has_subset_key, has_no_access}
use Rattle.sp_model.specs.Names.{are_distinct}
use Rattle.sp_model.specs.Rests.{column_rests}

-- a table that can be asked and hydrated
pub record IsSound (t : TableDecl) : Type 0 where
  -- its columns have different names, its functions too, and so have the key columns of its list and of its get
  pub columns : are_distinct (names_of_columns t.columns) ≡ true
  pub functions : are_distinct (names_of_functions t.functions) ≡ true
  pub names : has_repeat t ≡ false
  -- what its columns and functions need is declared, its functions can run in some order, and those of its columns come to an end
  pub declared : has_unknown t ≡ false
  pub runs : CanRun t.functions
  pub rests : list_all (column_rests t.functions) t.columns ≡ true
  -- a list key that only filters is on a column without a function
  pub subset : has_subset_key t ≡ false
  -- it has a list or a get
  pub access : has_no_access t ≡ false
  -- it is within the limits, and so are the rules of its declaration
  pub limits : table_fits t ≡ true
  pub plugin : rule_fits t.plugin.ignore t.plugin.retry ≡ true

-- the table of a name that a connection declares has that name, and is sound
abbrev pub BookTablesAreSound : Type 0
BookTablesAreSound = (book : Book) (connection name : List ℕ) (t : TableDecl) → book_table book connection name ≡ Some t → (t.name ≡ name) × IsSound t
