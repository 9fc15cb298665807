-- A connection that declares a table, and one whose declaration is refused; requests of a table.
use Rattle.std.specs.Prelude.{◌≡◌, ℕ, List, [], ◌∷◌, codes, Some, None, Err}
use Rattle.serde_json.specs.Data.{Data, string, array, object, no_items, item as thing, no_members, member}
use Rattle.sp_value.specs.declared.kind.Kind.TheVariants as kind
use Rattle.sp_model.specs.Book.{Book}
use Rattle.sp_model.specs.Requests.{IsRequestOf}
use Rattle.sp_model.specs.declared.call.Ending.TheVariants.{End}
use Rattle.sp_model.specs.declared.call.Version.TheVariants.{Is}
use Rattle.sp_model.specs.declared.declaration.ListDecl.{ListDecl}
use Rattle.sp_model.specs.declared.declaration.TableDecl.{TableDecl}
use Rattle.decl_words.specs.BookTables.{book_declaration, book_table}
use Rattle.decl_words.specs.declared.fault.DeclFault.TheVariants.{DuplicateName}
use Rattle.worked_values.specs.Samples.{item, column, table_of}
use Rattle.worked_values.specs.Serving.{items, both, id_above_1}

-- ---- a book's tables

-- `{"name": .., "kind": "int"}`
abbrev pub int_column : List ℕ → Data
int_column name = object (member (codes "name") (string name) (member (codes "kind") (string (codes "int")) no_members))

-- `{"function": "list"}`
abbrev pub plain_list : Data
plain_list = object (member (codes "function") (string (codes "list")) no_members)

-- `{"name": "number", "columns": .., "list": ..}`
abbrev pub numbers : Data
numbers = object
    (member (codes "name") (string (codes "number"))
    (member (codes "columns") (array (thing (int_column (codes "n")) no_items))
    (member (codes "list") plain_list no_members)))

abbrev pub once : Data
once = object (member (codes "tables") (array (thing numbers no_items)) no_members)

abbrev pub twice : Data
twice = object (member (codes "tables") (array (thing numbers (thing numbers no_items))) no_members)

abbrev pub declaring : Data → Book
declaring declaration = record { reply = λ key. record { items = []; ending = End }; version = λ connection tick. Is 7; declaration = λ connection. declaration }

abbrev pub listed : ListDecl
listed = record { function = codes "list"; keys = []; parent = None; tags = []; ignore = None; retry = None }

abbrev pub number_table : TableDecl
number_table = table_of (codes "number") (column (codes "n") kind.Int None ∷ []) (Some listed) None []

abbrev pub BookDeclaresItsTable : Type 0
BookDeclaresItsTable = (book_table (declaring once) (codes "c") (codes "number") ≡ Some number_table) × (book_table (declaring once) (codes "c") (codes "letter") ≡ None)

-- a declaration that is refused has no table
abbrev pub RefusedDeclarationHasNoTable : Type 0
RefusedDeclarationHasNoTable = (book_declaration (declaring twice) (codes "c") ≡ Err (DuplicateName 2)) × (book_table (declaring twice) (codes "c") (codes "number") ≡ None)

-- ---- requests of a table

abbrev pub RequestsAreOfTheTable : Type 0
RequestsAreOfTheTable = IsRequestOf item (items [] both None) × IsRequestOf item (items (id_above_1 ∷ []) both (Some 1))

-- a limit of 0, a condition on a column that isn't asked for, columns in another order, and no subset keys
abbrev pub OddRequestsAreNot : Type 0
OddRequestsAreNot =
    ((IsRequestOf item (items [] both (Some 0)) → ⊥) × (IsRequestOf item (items (id_above_1 ∷ []) (codes "name" ∷ []) None) → ⊥))
    × ((IsRequestOf item (items [] (codes "name" ∷ codes "id" ∷ []) None) → ⊥) × (IsRequestOf item (record (items [] both None) { subset = [] }) → ⊥))
