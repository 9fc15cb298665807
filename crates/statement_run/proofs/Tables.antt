-- Tables of declarations that were read.
use Rattle.std.proofs.Common.{◌≡◌, ◌⊎◌, inl, inr, ℕ, Bool, true, false, List, [], ◌∷◌, Option, Some, None, Result, Ok, Err, refl, ap, subst, sym, ◌∙◌}
use Rattle.std.specs.Prelude.{bytes_eq, find}
use Rattle.serde_json.specs.Data.{Data}
use Rattle.sp_model.specs.Book.{Book}
use Rattle.sp_model.specs.declared.declaration.Declaration.{Declaration}
use Rattle.sp_model.specs.declared.declaration.TableDecl.{TableDecl}
use Rattle.decl_words.specs.BookTables.{book_declaration, book_table, find_table, table_in}
use Rattle.decl_words.specs.Reading.{read_declaration}
use Rattle.decl_words.specs.Sound.{IsSound, BookTablesAreSound}
use Rattle.decl_words.specs.declared.fault.DeclFault.{DeclFault}
use Rattle.decl_words.proofs.Lists.{In}
use Rattle.decl_words.proofs.Soundness.{book-tables-are-sound}
use Rattle.declaration_run.specs.Declaring.{IsRead}
use Rattle.source_run.specs.Laws.{gets_by_equals}
use Rattle.sql_bind.proofs.Declared.{split}
use Rattle.sql_bind.specs.Sources.{first_table}
use Rattle.statement_run.proofs.Eaches.{is_it}
use Rattle.statement_run.proofs.GetKeys.{read_gets}

found : (name : List ℕ) (ts : List TableDecl) (t : TableDecl) → first_table name ts ≡ Some t → (t.name ≡ name) × (find_table name ts ≡ Some t) × In t ts
found name [] t e = absurd (cc)
found name (x ∷ xs) t e = elim (split (bytes_eq x.name name)) [
  | inl is ↦ here is (rw is at e)
  | inr isnt ↦ let r = found name xs t (rw isnt at e) in (r.0, rw isnt r.1, inr r.2)
]
  where
    here : bytes_eq x.name name ≡ true → Some x ≡ Some t → (t.name ≡ name) × (find_table name (x ∷ xs) ≡ Some t) × In t (x ∷ xs)
    here is e = let same : x ≡ t = cc in (subst (λ (y : TableDecl). y.name ≡ name) same (is_it x.name name is), rw is e, inl (sym same))

-- a table of a declaration is found by its own name
own_name : (name : List ℕ) (ts : List TableDecl) (t : TableDecl) → first_table name ts ≡ Some t → find_table t.name ts ≡ Some t
own_name name ts t e = let r = found name ts t e in subst (λ (n : List ℕ). find_table n ts ≡ Some t) (sym r.0) r.1

pub book_has : (book : Book) (connection name : List ℕ) (d : Declaration) (t : TableDecl) → book_declaration book connection ≡ Ok d → first_table name d.tables ≡ Some t → book_table book connection t.name ≡ Some t
unfolding book_table
book_has book connection name d t declares e = ap (table_in t.name) declares ∙ own_name name d.tables t e

-- a book all of whose connections declare this
abbrev saying : Book → Data → Book
saying book value = record book { declaration = λ connection. value }

says : (book : Book) (value : Data) (connection : List ℕ) (d : Declaration) → read_declaration value ≡ Ok d → book_declaration (saying book value) connection ≡ Ok d
unfolding book_declaration
says book value connection d e = e

pub is_sound : (book : Book) (name : List ℕ) (d : Declaration) (t : TableDecl) → IsRead d → first_table name d.tables ≡ Some t → IsSound t
is_sound book name d t read e =
    let r = book-tables-are-sound (saying book read.0) [] t.name t (book_has (saying book read.0) [] name d t (says book read.0 [] d read.1) e) in r.1

pub gets_by : (name : List ℕ) (d : Declaration) (t : TableDecl) → IsRead d → first_table name d.tables ≡ Some t → gets_by_equals t ≡ true
gets_by name d t read e = read_gets read.0 d read.1 t (found name d.tables t e).2
