-- The plain connections that a connection's name stands for.
use Rattle.std.specs.Prelude.{ℕ, List, [], ◌∷◌, filter, find, slice_get, bytes_eq, Option, Some, None, option_and_then, if◌then◌else◌}
use Rattle.sp_model.specs.declared.declaration.Declaration.{Declaration}
use Rattle.sp_model.specs.declared.settings.Connection.{Connection}
use Rattle.sp_model.specs.declared.settings.Settings.{Settings}
use Rattle.sql_bind.specs.Known.{Known, is_connection, declaration_of}

abbrev pub connection_named : Settings → List ℕ → Option Connection
connection_named settings name = find (λ c. bytes_eq c.name name) settings.connections

abbrev pub members_by : Settings → List ℕ → Option Connection → List (List ℕ)
members_by settings name None = name ∷ []
members_by settings name (Some c) = if c.aggregator then filter (is_connection settings) c.members else name ∷ []

-- an aggregator stands for its members, as far as they are connections, and every other connection for itself
abbrev pub members_named : Settings → List ℕ → List (List ℕ)
members_named settings name = members_by settings name (connection_named settings name)

-- the first of them speaks for all
abbrev pub first_member : Settings → List ℕ → Option (List ℕ)
first_member settings name = slice_get (members_named settings name) 0

-- the declaration that stands for a name: that of its first member
abbrev pub declared_under : Settings → (List ℕ → Option Declaration) → List ℕ → Option Declaration
declared_under settings declarations name = option_and_then declarations (first_member settings name)

abbrev pub known_under : Known → List ℕ → Option Declaration
known_under known = declared_under known.settings (declaration_of known)
