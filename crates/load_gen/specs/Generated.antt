-- The book of the generated world.
use Rattle.std.specs.Prelude.{ℕ, List, [], ◌∷◌, codes, bytes_eq, Option, Some, None, if◌then◌else◌}
use Rattle.serde_json.specs.Data.{Data, null}
use Rattle.serde_json.specs.Read.{read}
use Rattle.sp_value.specs.declared.cell.Cell.{Cell}
use Rattle.sp_model.specs.Book.{Book}
use Rattle.sp_model.specs.declared.call.Call.{Call}
use Rattle.sp_model.specs.declared.call.Call.TheVariants as call
use Rattle.sp_model.specs.declared.call.Ending.TheVariants.{End, Error}
use Rattle.sp_model.specs.declared.call.Reply.{Reply}
use Rattle.sp_model.specs.declared.call.Version.TheVariants.{Is}
use Rattle.load_gen.specs.Asked.{id_of, size_of}
use Rattle.load_gen.specs.Rows.{items, is_throttled, owner, score}
use Rattle.load_gen.specs.declared.world.TheConstants.{DECLARATION}

abbrev pub gives : List Cell → Reply
gives cells = record { items = cells; ending = End }

abbrev pub throttled : Reply
throttled = record { items = []; ending = Error (codes "Throttled") }

abbrev pub owner_reply : ℕ → ℕ → Reply
owner_reply id attempt = if is_throttled id attempt then throttled else gives (owner id ∷ [])

-- what a function gives of the row of a number
abbrev pub function_reply : List ℕ → ℕ → ℕ → Reply
function_reply function attempt id =
    if bytes_eq function (codes "getOwner") then owner_reply id attempt else
    (if bytes_eq function (codes "getScore") then gives (score id ∷ []) else gives [])

abbrev pub row_reply : List ℕ → ℕ → Option ℕ → Reply
row_reply function attempt None = gives []
row_reply function attempt (Some id) = function_reply function attempt id

abbrev pub list_reply : Option ℕ → Reply
list_reply None = gives []
list_reply (Some size) = gives (items size)

-- a list by its size, and a function by the number of its row; every other call gives no item
abbrev pub call_reply : Call → ℕ → Reply
call_reply (call.List table conditions None) attempt = list_reply (size_of conditions)
call_reply (call.Hydrate table function item results) attempt = row_reply function attempt (id_of item)
call_reply _ attempt = gives []

abbrev pub or_null : Option Data → Data
or_null None = null
or_null (Some d) = d

-- the JSON of the declaration's text
unfoldable pub declaration : Data
declaration = or_null (read DECLARATION.now)

-- each connection answers so, at version 1 at every tick
abbrev pub generated : Book
generated = record { reply = λ key. call_reply key.call key.attempt; version = λ connection tick. Is 1; declaration = λ connection. declaration }
