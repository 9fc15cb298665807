-- The tables that a book's connections declare.
use Rattle.std.specs.Prelude.{ℕ, List, [], ◌∷◌, Option, Some, None, Result, Ok, Err, bytes_eq, if◌then◌else◌}
use Rattle.sp_model.specs.Book.{Book}
use Rattle.sp_model.specs.declared.declaration.Declaration.{Declaration}
use Rattle.sp_model.specs.declared.declaration.TableDecl.{TableDecl}
use Rattle.decl_words.specs.Reading.{read_declaration}
use Rattle.decl_words.specs.declared.fault.DeclFault.{DeclFault}

-- what a connection declares, or the first refusal
unfoldable pub book_declaration : Book → List ℕ → Result Declaration DeclFault
book_declaration book connection = read_declaration (book.declaration connection)

-- the table of a name among these
abbrev pub find_table : List ℕ → List TableDecl → Option TableDecl
find_table name [] = None
find_table name (t ∷ ts) = if bytes_eq t.name name then Some t else find_table name ts

-- a declaration that is refused has no table
abbrev pub table_in : List ℕ → Result Declaration DeclFault → Option TableDecl
table_in name (Ok d) = find_table name d.tables
table_in name (Err fault) = None

-- the table of a name that a connection declares
unfoldable pub book_table : Book → List ℕ → List ℕ → Option TableDecl
book_table book connection name = table_in name (book_declaration book connection)
