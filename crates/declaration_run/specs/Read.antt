-- The declaration of one connection, as it is asked and read.
use Rattle.std.specs.Prelude.{◌≡◌, ℕ, Bool, List, Result, IsTrue, Err}
use Rattle.sp_model.specs.Book.{Book}
use Rattle.sp_model.specs.declared.declaration.Declaration.{Declaration}
use Rattle.decl_words.specs.BookTables.{book_declaration}
use Rattle.decl_words.specs.declared.fault.DeclFault.{DeclFault}
use Rattle.desk.specs.States.{DeskState}
use Rattle.statement_words.specs.Runs.{IsGone}
use Rattle.declaration_run.specs.declared.undeclared.Undeclared.{Undeclared}
use Rattle.declaration_run.specs.declared.undeclared.Undeclared.TheVariants as undeclared

-- it is refused so, or memory is wanting
abbrev pub IsRefusalOf : List ℕ → DeclFault → Undeclared → Type 0
IsRefusalOf connection fault undeclared.Memory = Unit {0}
IsRefusalOf connection fault (undeclared.Refused name f) = (name ≡ connection) × (f ≡ fault)
IsRefusalOf connection fault _ = ⊥

abbrev pub IsUnreadOf : List ℕ → Result Declaration DeclFault → Undeclared → Type 0
IsUnreadOf connection r undeclared.Memory = Unit {0}
IsUnreadOf connection r (undeclared.Refused name fault) = (name ≡ connection) × (r ≡ Err fault)
IsUnreadOf connection r _ = ⊥

-- it differs, or memory is wanting
abbrev pub IsDifference : List ℕ → Undeclared → Type 0
IsDifference connection undeclared.Memory = Unit {0}
IsDifference connection (undeclared.Differs name) = name ≡ connection
IsDifference connection _ = ⊥

-- it can't be had by itself
abbrev pub IsUnasked : Bool → Book → DeskState → List ℕ → Undeclared → Type 0
IsUnasked tells book s connection undeclared.Memory = Unit {0}
IsUnasked tells book s connection (undeclared.Refused name fault) = (name ≡ connection) × (IsTrue tells → book_declaration book connection ≡ Err fault)
IsUnasked tells book s connection (undeclared.Differs name) = ⊥
IsUnasked tells book s connection (undeclared.RestartsSpent name losses) = (name ≡ connection) × IsGone s name losses
