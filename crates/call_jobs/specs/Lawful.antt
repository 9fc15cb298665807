-- Jobs that may be handed in.
use Rattle.std.specs.Prelude.{◌≡◌, ◌≤◌, ◌^◌, Bool, true, false, IsTrue, List, Contains, Option, None, Some}
use Rattle.sp_model.specs.Book.{Book}
use Rattle.sp_model.specs.Calls.{is_lawful_by}
use Rattle.sp_model.specs.declared.call.Asked.{Asked}
use Rattle.sp_model.specs.declared.call.Asked.TheVariants as asked
use Rattle.sp_model.specs.declared.call.CallKey.{CallKey}
use Rattle.sp_model.specs.declared.declaration.TableDecl.{TableDecl}
use Rattle.sp_model.specs.declared.settings.Connection.{Connection}
use Rattle.decl_words.specs.BookTables.{book_table}
use Rattle.sp_world.specs.RequestLines.{IsAskedForm}
use Rattle.call_jobs.specs.Jobs.{asked_by, table_by, function_by, connection_of, tags_for}
use Rattle.call_jobs.specs.declared.job.Job.{Job}

-- the call is lawful by its table, which is the book's where the book is told
pub record IsLawfulCall (tells : Bool) (book : Book) (key : CallKey) (table : TableDecl) : Type 0 where
  pub lawful : is_lawful_by table key.call key.attempt ≡ true
  pub of_book : IsTrue tells → book_table book key.connection table.name ≡ Some table

-- a lawful call of a table, a version at a tick, or a declaration
abbrev pub IsLawful : Bool → Book → Asked → Option TableDecl → Type 0
IsLawful tells book (asked.Call key) None = ⊥
IsLawful tells book (asked.Call key) (Some table) = IsLawfulCall tells book key table
IsLawful tells book (asked.Version connection tick) table = tick ≤ 2 ^ 62
IsLawful tells book (asked.Declare connection) table = Unit {0}

-- a connection of these that is no aggregator is asked, and limiters see the call of it
pub record IsOfConnections (connections : List Connection) (job : Job) : Type 0 where
  pub connection : Connection
  pub among : Contains connections connection
  pub plain : connection.aggregator ≡ false
  pub named : connection.name ≡ connection_of (asked_by job)
  pub tagged : job.tags ≡ tags_for connection (asked_by job) (table_by job)

-- what is asked is lawful, is asked of one of these connections, and has a line that is read as itself
pub record IsLawfulJob (tells : Bool) (book : Book) (connections : List Connection) (job : Job) : Type 0 where
  pub lawful : IsLawful tells book (asked_by job) (table_by job)
  pub of_connections : IsOfConnections connections job
  pub form : IsAskedForm (function_by job) (asked_by job)
