-- What a child may hear.
use Rattle.std.specs.Prelude.{◌≡◌, ℕ, Bool, List, [], ◌∷◌, Option, Ok}
use Rattle.call_jobs.specs.Jobs.{connection_of, line_function}
use Rattle.call_jobs.specs.Lawful.{IsLawful}
use Rattle.sp_model.specs.Book.{Book}
use Rattle.sp_model.specs.declared.call.Asked.{Asked}
use Rattle.sp_model.specs.declared.declaration.TableDecl.{TableDecl}
use Rattle.sp_world.specs.RequestLines.{request_of}
use Rattle.sp_world.specs.declared.line.Request.TheVariants.{Ask}
use Rattle.sp_outside.specs.declared.log.Event.{Event}
use Rattle.sp_outside.specs.declared.log.Event.TheVariants.{Heard, Given, Started}

-- a request of a connection's own: a declaration, a version at a tick, or a lawful call of a table, whose function the line names
pub record MayHear (tells : Bool) (book : Book) (name : List ℕ) (what : Asked) (function : Option (List ℕ)) : Type 0 where
  pub own : connection_of what ≡ name
  pub table : Option TableDecl
  pub lawful : IsLawful tells book what table
  pub declared : function ≡ line_function what table

-- a line is read as such a request
pub record IsLawfulLine (tells : Bool) (book : Book) (name : List ℕ) (line : List ℕ) : Type 0 where
  pub id : ℕ
  pub what : Asked
  pub function : Option (List ℕ)
  pub reads : request_of line ≡ Ok (Ask id what function)
  pub may : MayHear tells book name what function

-- each line that was heard is
abbrev pub HeardLawfully : Bool → Book → List ℕ → List Event → Type 0
HeardLawfully tells book name [] = Unit {0}
HeardLawfully tells book name (Heard line ∷ log) = IsLawfulLine tells book name line × HeardLawfully tells book name log
HeardLawfully tells book name (Given line ∷ log) = HeardLawfully tells book name log
HeardLawfully tells book name (Started ∷ log) = HeardLawfully tells book name log
