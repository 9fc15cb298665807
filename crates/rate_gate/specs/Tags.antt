-- What limiters see of a call.
use Rattle.std.specs.Prelude.{ℕ, codes, List, [], ◌∷◌, Option, Some, None, option_map}
use Rattle.sp_model.specs.Hydration.{find_function}
use Rattle.sp_model.specs.Walk.{parent_of}
use Rattle.sp_model.specs.declared.call.Call.{Call}
use Rattle.sp_model.specs.declared.call.Call.TheVariants as call
use Rattle.sp_model.specs.declared.declaration.TableDecl.{TableDecl}
use Rattle.sp_model.specs.declared.settings.Connection.{Connection}
use Rattle.sp_model.specs.declared.settings.Pair.{Pair}
use Rattle.rate_gate.specs.declared.tag_list.TagList.{TagList}

abbrev pub table_named : Call → List ℕ
table_named (call.List name conditions parent) = name
table_named (call.Parents name) = name
table_named (call.Get name conditions) = name
table_named (call.Hydrate name function item results) = name

abbrev pub own : List ℕ → List Pair → List ℕ × List Pair
own function tags = (function, tags)

-- the function that a table declares for a call, with its tags
abbrev pub own_of : TableDecl → Call → Option (List ℕ × List Pair)
own_of table (call.List name conditions parent) = option_map (λ d. own d.function d.tags) table.list
own_of table (call.Parents name) = option_map (λ d. own d.function d.tags) (parent_of table.list)
own_of table (call.Get name conditions) = option_map (λ d. own d.function d.tags) table.get
own_of table (call.Hydrate name function item results) = option_map (λ d. own d.name d.tags) (find_function function table.functions)

abbrev pub pair : List ℕ → List ℕ → Pair
pair name value = record { name = name; value = value }

-- the four values of each call, and then the tags of its function
abbrev pub pairs_with : Connection → TableDecl → List ℕ → List Pair → List Pair
pairs_with connection table function tags =
    pair (codes "plugin") connection.plugin ∷ pair (codes "connection") connection.name ∷ pair (codes "table") table.name ∷ pair (codes "function_name") function ∷ tags

abbrev pub tags_with : Connection → TableDecl → Option (List ℕ × List Pair) → TagList
tags_with connection table None = record { connection = connection.name; pairs = [] }
tags_with connection table (Some found) = record { connection = connection.name; pairs = pairs_with connection table found.0 found.1 }

-- the tags of a call of a connection's table
abbrev pub tags_of : Connection → TableDecl → Call → TagList
tags_of connection table asked = tags_with connection table (own_of table asked)
