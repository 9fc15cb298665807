-- Calls of a scan.
use Rattle.std.specs.Prelude.{◌≡◌, ℕ, true, List}
use Rattle.sp_model.specs.Calls.{is_lawful_by, function_of}
use Rattle.sp_model.specs.declared.call.Asked.TheVariants as asks
use Rattle.sp_model.specs.declared.declaration.TableDecl.{TableDecl}
use Rattle.sp_world.specs.RequestLines.{IsAskedForm}
use Rattle.row_flight.specs.declared.frame.Wanted.{Wanted}

-- a lawful call of the table, asked of the connection of this name, with a line that is read as itself
pub record IsCallOf (table : TableDecl) (name : List ℕ) (wanted : Wanted) : Type 0 where
  pub lawful : is_lawful_by table wanted.call.call wanted.call.attempt ≡ true
  pub connection : wanted.call.connection ≡ name
  pub form : IsAskedForm (function_of table wanted.call.call) (asks.Call wanted.call)
