-- What is read of a told declaration.
use Rattle.std.proofs.Common.{◌≡◌, ℕ, Bool, List, IsTrue, Result, Ok, Err, sym, ap, subst, ◌∙◌}
use Rattle.std.specs.Prelude.{IfOk, IfErr, MatchResult}
use Rattle.serde_json.specs.Data.{Data}
use Rattle.serde_json.specs.View.{view}
use Rattle.serde_json.specs.declared.value.Value.{Value}
use Rattle.sp_model.specs.Book.{Book}
use Rattle.sp_model.specs.declared.call.Asked.{Asked}
use Rattle.sp_model.specs.declared.call.Asked.TheVariants as asks
use Rattle.sp_model.specs.declared.declaration.Declaration.{Declaration}
use Rattle.sp_world.specs.Pieces.{IsToldDeclaration}
use Rattle.decl_words.specs.BookTables.{book_declaration}
use Rattle.decl_words.specs.Reading.{read_declaration}
use Rattle.desk.specs.States.{DeskState}
use Rattle.declaration_run.specs.Declaring.{IsRead}
use Rattle.declaration_run.specs.Read.{IsUnreadOf, IsUnasked}
use Rattle.declaration_run.specs.declared.undeclared.Undeclared.{Undeclared}
use Rattle.declaration_run.specs.declared.undeclared.Undeclared.TheVariants as undeclared

-- what is told of a connection's declaration is the book's
pub told_value : (tells : Bool) (book : Book) (connection : List ℕ) (asked : Asked) (told lent : Value)
    → asked ≡ asks.Declare connection → lent ≡ told → (IsTrue tells → IsToldDeclaration book asked told) → IsTrue tells → view lent ≡ book.declaration connection
told_value tells book connection asked told lent is same said t = ap view same ∙ subst (λ (a : Asked). IsToldDeclaration book a told) is (said t)

-- a told value, and what it was read as
module _ (tells : Bool) (book : Book) (connection : List ℕ) (value : Data) (told : IsTrue tells → value ≡ book.declaration connection) where
  pub read_as : (r : Result Declaration Undeclared) → MatchResult r (λ d. read_declaration value ≡ Ok d) (IsUnreadOf connection (read_declaration value)) → IsTrue tells → IfOk r (λ d. book_declaration book connection ≡ Ok d)
  unfolding book_declaration
  read_as (Ok d) read t = ap read_declaration (sym (told t)) ∙ read
  read_as (Err e) read t = tt

  unread : (e : Undeclared) (s : DeskState) → IsUnreadOf connection (read_declaration value) e → IsUnasked tells book s connection e
  unfolding book_declaration
  unread undeclared.Memory s h = tt
  unread (undeclared.Refused name fault) s h = (h.0, λ t. ap read_declaration (sym (told t)) ∙ h.1)
  unread (undeclared.Differs name) s h = absurd h
  unread (undeclared.RestartsSpent name losses) s h = absurd h

  pub unread_as : (r : Result Declaration Undeclared) → MatchResult r (λ d. read_declaration value ≡ Ok d) (IsUnreadOf connection (read_declaration value)) → (s : DeskState) → IfErr r (IsUnasked tells book s connection)
  unread_as (Ok d) read s = tt
  unread_as (Err e) read s = unread e s read

pub was_read : (connection : List ℕ) (value : Data) (r : Result Declaration Undeclared) → MatchResult r (λ d. read_declaration value ≡ Ok d) (IsUnreadOf connection (read_declaration value)) → IfOk r IsRead
was_read connection value (Ok d) read = (value, read)
was_read connection value (Err e) read = tt
