-- Replies that are written down, by function, subject and attempt.
use Rattle.std.specs.Prelude.{ℕ, ◌==◌, ◌&&◌, List, [], ◌∷◌, Option, Some, None, codes, bytes_eq, if◌then◌else◌}
use Rattle.sp_value.specs.declared.cell.Cell.{Cell}
use Rattle.sp_value.specs.declared.cell.Cell.TheOpen.{Cell-F}
use Rattle.sp_value.specs.declared.cell.Cell.TheViews.{out-Cell}
use Rattle.sp_model.specs.Fields.{field}
use Rattle.sp_model.specs.declared.call.Call.{Call}
use Rattle.sp_model.specs.declared.call.Call.TheVariants as call
use Rattle.sp_model.specs.declared.call.Reply.{Reply}
use Rattle.plain_program.specs.declared.script.Written.{Written}

abbrev pub text_at : Cell-F Cell → List ℕ
text_at (Cell-F.Text t) = t
text_at _ = []

-- the text under `name` in an item
abbrev pub name_in : Cell → List ℕ
name_in item = text_at (out-Cell (field (codes "name") item))

abbrev pub name_in_some : Option Cell → List ℕ
name_in_some None = []
name_in_some (Some item) = name_in item

-- the function of a hydrate call, else `list`, `parents` or `get`
abbrev pub function_of : Call → List ℕ
function_of (call.List table conditions parent) = codes "list"
function_of (call.Parents table) = codes "parents"
function_of (call.Get table conditions) = codes "get"
function_of (call.Hydrate table function item results) = function

-- the name in the item of a hydrate call, or in the parent of a list
abbrev pub subject_of : Call → List ℕ
subject_of (call.List table conditions parent) = name_in_some parent
subject_of (call.Parents table) = []
subject_of (call.Get table conditions) = []
subject_of (call.Hydrate table function item results) = name_in item

-- the first reply that is written for a function, a subject and an attempt
abbrev pub find_reply : List ℕ → List ℕ → ℕ → List Written → Option Reply
find_reply function subject attempt [] = None
find_reply function subject attempt (w ∷ ws) =
    if bytes_eq w.function function && bytes_eq w.subject subject && w.attempt == attempt then Some w.reply else find_reply function subject attempt ws

abbrev pub scripted : List Written → Call → ℕ → Option Reply
scripted ws asked attempt = find_reply (function_of asked) (subject_of asked) attempt ws
