-- What a job asks.
use Rattle.std.specs.Prelude.{◌≡◌, ℕ, List, [], Option, Some, None, option_map}
use Rattle.std.specs.Arc.{arc_value}
use Rattle.rate_gate.specs.Tags.{tags_of}
use Rattle.rate_gate.specs.declared.tag_list.TagList.{TagList}
use Rattle.sp_model.specs.Calls.{function_of}
use Rattle.sp_model.specs.declared.call.Asked.{Asked}
use Rattle.sp_model.specs.declared.call.Asked.TheVariants as asked
use Rattle.sp_model.specs.declared.declaration.TableDecl.{TableDecl}
use Rattle.sp_model.specs.declared.scan.Seat.{Seat}
use Rattle.sp_model.specs.declared.settings.Connection.{Connection}
use Rattle.call_jobs.specs.declared.job.Job.{Job}

abbrev pub asked_by : Job → Asked
asked_by job = arc_value job.asked

abbrev pub table_by : Job → Option TableDecl
table_by job = option_map arc_value job.table

-- the connection that is asked
abbrev pub connection_of : Asked → List ℕ
connection_of (asked.Call key) = key.connection
connection_of (asked.Version connection tick) = connection
connection_of (asked.Declare connection) = connection

-- the function that a request's line names: of a call of a table the one that the table declares for it
abbrev pub line_function : Asked → Option TableDecl → Option (List ℕ)
line_function (asked.Call key) (Some table) = function_of table key.call
line_function _ _ = None

abbrev pub function_by : Job → Option (List ℕ)
function_by job = line_function (asked_by job) (table_by job)

-- what limiters see: of a declare or version call the connection alone
abbrev pub tags_for : Connection → Asked → Option TableDecl → TagList
tags_for connection (asked.Call key) (Some table) = tags_of connection table key.call
tags_for connection _ _ = record { connection = connection.name; pairs = [] }

-- the job asks this of a connection, for a seat, not before a tick; its session is set when it is handed in
pub record IsJob (connection : Connection) (what : Asked) (table : Option TableDecl) (seat : Seat) (due : ℕ) (job : Job) : Type 0 where
  pub asks : asked_by job ≡ what
  pub of_table : table_by job ≡ table
  pub for_seat : job.seat ≡ seat
  pub not_before : job.due ≡ due
  pub tagged : job.tags ≡ tags_for connection what table
  pub session : job.session ≡ 0
