-- What connections declare, and why a statement has no declaration of one.
use Rattle.std.specs.Prelude.{◌≡◌, ℕ, Bool, true, List, [], ◌∷◌, ◌++◌, All, Contains, find, Option, Some, IsSome, IsTrue, Ok, Err}
use Rattle.serde_json.specs.Data.{Data}
use Rattle.sp_model.specs.Book.{Book}
use Rattle.sp_model.specs.Names.{has_name}
use Rattle.sp_model.specs.declared.declaration.Declaration.{Declaration}
use Rattle.sp_model.specs.declared.settings.Settings.{Settings}
use Rattle.decl_words.specs.BookTables.{book_declaration}
use Rattle.decl_words.specs.Reading.{read_declaration}
use Rattle.desk.specs.States.{DeskState}
use Rattle.sql_bind.specs.Known.{Known, declaration_of}
use Rattle.statement_words.specs.Runs.{plain_names, IsGone}
use Rattle.declaration_run.specs.declared.undeclared.Undeclared.{Undeclared}
use Rattle.declaration_run.specs.declared.undeclared.Undeclared.TheVariants as undeclared

-- ---- the catalog

-- what the catalog has is what the book's connections declare
abbrev pub IsTold : Book → Known → Type 0
IsTold book known = (connection : List ℕ) (d : Declaration) → declaration_of known connection ≡ Some d → book_declaration book connection ≡ Ok d

-- a declaration that some JSON was read as
abbrev pub IsRead : Declaration → Type 0
IsRead d = (json : Data) × (read_declaration json ≡ Ok d)

-- each declaration that the catalog has was read
abbrev pub AreRead : Known → Type 0
AreRead known = (connection : List ℕ) (d : Declaration) → declaration_of known connection ≡ Some d → IsRead d

-- each of these has a declaration
abbrev pub AllDeclared : Known → List (List ℕ) → Type 0
AllDeclared known connections = (connection : List ℕ) → has_name connections connection ≡ true → IsSome (declaration_of known connection)

-- a connection that has a declaration keeps it
abbrev pub StayDeclared : Known → Known → Type 0
StayDeclared before after = (connection : List ℕ) (d : Declaration) → declaration_of before connection ≡ Some d → declaration_of after connection ≡ Some d

-- each of these is a plain connection of the settings
abbrev pub ArePlain : Settings → List (List ℕ) → Type 0
ArePlain settings names = (name : List ℕ) → has_name names name ≡ true → has_name (plain_names settings.connections) name ≡ true

-- ---- connections that have to declare the same

-- the first of these connections that is one of a group
abbrev pub first_in : List (List ℕ) → List (List ℕ) → Option (List ℕ)
first_in connections group = find (has_name group) connections

-- a connection of a group declares what the first of the group does
abbrev pub AgreesIn : (List ℕ → Option Declaration) → List (List ℕ) → List ℕ → List (List ℕ) → Type 0
AgreesIn declarations connections connection group =
    (first : List ℕ) (theirs own : Declaration) → has_name group connection ≡ true → first_in connections group ≡ Some first → declarations first ≡ Some theirs → declarations connection ≡ Some own → theirs ≡ own

-- it declares something else
pub record DiffersIn (declarations : List ℕ → Option Declaration) (connections : List (List ℕ)) (connection : List ℕ) (group : List (List ℕ)) : Type 0 where
  pub first : List ℕ
  pub theirs : Declaration
  pub own : Declaration
  pub among : has_name group connection ≡ true
  pub is_first : first_in connections group ≡ Some first
  pub declares_theirs : declarations first ≡ Some theirs
  pub declares_own : declarations connection ≡ Some own
  pub differ : theirs ≡ own → ⊥

-- in each group; in one of them
abbrev pub Agrees : (List ℕ → Option Declaration) → List (List ℕ) → List (List (List ℕ)) → List ℕ → Type 0
Agrees declarations connections groups connection = All (AgreesIn declarations connections connection) groups

abbrev pub Differs : (List ℕ → Option Declaration) → List (List ℕ) → List (List (List ℕ)) → List ℕ → Type 0
Differs declarations connections groups connection = (group : List (List ℕ)) × Contains groups group × DiffersIn declarations connections connection group

-- each of these connections, which come after some, agrees with those up to it
abbrev pub AllAgree : (List ℕ → Option Declaration) → List (List (List ℕ)) → List (List ℕ) → List (List ℕ) → Type 0
AllAgree declarations groups before [] = Unit {0}
AllAgree declarations groups before (c ∷ cs) = Agrees declarations (before ++ c ∷ []) groups c × AllAgree declarations groups (before ++ c ∷ []) cs

-- each of these has a declaration, and agrees with those before it
abbrev pub AreDone : Known → List (List (List ℕ)) → List (List ℕ) → Type 0
AreDone known groups connections = AllDeclared known connections × AllAgree (declaration_of known) groups [] connections

-- ---- why there is none

-- the connection's declaration is the book's, refused so; it differs from that of the first connection that it is in a group with, of those up
-- to it; the desk knows that the connection is gone; or want of memory
abbrev pub IsUndeclared : Bool → Book → DeskState → Known → List (List ℕ) → List (List (List ℕ)) → List ℕ → Undeclared → Type 0
IsUndeclared tells book s known connections groups connection undeclared.Memory = Unit {0}
IsUndeclared tells book s known connections groups connection (undeclared.Refused name fault) = (name ≡ connection) × (IsTrue tells → book_declaration book connection ≡ Err fault)
IsUndeclared tells book s known connections groups connection (undeclared.Differs name) = (name ≡ connection) × Differs (declaration_of known) connections groups connection
IsUndeclared tells book s known connections groups connection (undeclared.RestartsSpent name losses) = (name ≡ connection) × IsGone s name losses

-- the first of these connections for which that is so; those before it are declared and agree
pub record IsFirstUndeclared (tells : Bool) (book : Book) (s : DeskState) (known : Known) (connections : List (List ℕ)) (groups : List (List (List ℕ))) (e : Undeclared) : Type 0 where
  pub before : List (List ℕ)
  pub connection : List ℕ
  pub after : List (List ℕ)
  pub among : connections ≡ before ++ connection ∷ after
  pub done : AreDone known groups before
  pub is : IsUndeclared tells book s known (before ++ connection ∷ []) groups connection e
