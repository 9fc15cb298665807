-- Which connections an aggregator stands for.
use Rattle.std.specs.Prelude.{ℕ, ◌==◌, Bool, ◌&&◌, not, List, [], map, filter, bytes_eq, if◌then◌else◌}
use Rattle.std.specs.List.{list_any}
use Rattle.sp_value.specs.Patterns.{fits}
use Rattle.sp_model.specs.declared.settings.Connection.{Connection}

abbrev pub has_star : List ℕ → Bool
has_star pattern = list_any (λ b. b == 42) pattern

-- a pattern with a star stands for the connections of the plugin whose names fit, and one without for the connection of that name
abbrev pub stands_for : List ℕ → Connection → List ℕ → Bool
stands_for plugin c pattern = if has_star pattern then bytes_eq c.plugin plugin && fits pattern c.name else bytes_eq c.name pattern

-- the members of an aggregator are plain connections
abbrev pub is_member : Connection → Connection → Bool
is_member aggregator c = not c.aggregator && list_any (stands_for aggregator.plugin c) aggregator.connections

-- their names in the order of the settings, each once
abbrev pub members_of : List Connection → Connection → List (List ℕ)
members_of all c = if c.aggregator then map (λ m. m.name) (filter (is_member c) all) else []

-- no connection is a member
abbrev pub is_empty_aggregator : List Connection → Connection → Bool
is_empty_aggregator all c = c.aggregator && not (list_any (is_member c) all)

abbrev pub is_named_by : Connection → List ℕ → Bool
is_named_by c pattern = not (has_star pattern) && bytes_eq c.name pattern

-- a pattern without a star names this plain connection, and it has another plugin
abbrev pub is_strange : Connection → Connection → Bool
is_strange aggregator c = not c.aggregator && not (bytes_eq c.plugin aggregator.plugin) && list_any (is_named_by c) aggregator.connections

abbrev pub members_differ : List Connection → Connection → Bool
members_differ all c = c.aggregator && list_any (is_strange c) all

abbrev pub with_its_members : List Connection → Connection → Connection
with_its_members all c = record c { members = members_of all c }

abbrev pub with_members : List Connection → List Connection
with_members all = map (with_its_members all) all
