-- What is known when a statement is bound.
use Rattle.std.specs.Prelude.{ℕ, Bool, List, [], ◌∷◌, map, bytes_eq, Option, None, if◌then◌else◌}
use Rattle.std.specs.List.{list_any}
use Rattle.sp_model.specs.declared.declaration.Declaration.{Declaration}
use Rattle.sp_model.specs.declared.settings.Connection.{Connection}
use Rattle.sp_model.specs.declared.settings.Settings.{Settings}

-- the settings, and beside each of their connections its declaration, where it was set
pub record Known : Type 0 where
  pub settings : Settings
  pub declared : List (Option Declaration)

abbrev pub is_connection : Settings → List ℕ → Bool
is_connection settings name = list_any (λ c. bytes_eq c.name name) settings.connections

abbrev pub nothing_declared : Settings → Known
nothing_declared settings = record { settings = settings; declared = map (λ _. None) settings.connections }

-- what stands beside the first connection of a name
abbrev pub declared_for : List Connection → List (Option Declaration) → List ℕ → Option Declaration
declared_for [] ds name = None
declared_for (c ∷ cs) [] name = None
declared_for (c ∷ cs) (d ∷ ds) name = if bytes_eq c.name name then d else declared_for cs ds name

-- the declaration of the connection of a name
abbrev pub declaration_of : Known → List ℕ → Option Declaration
declaration_of known name = declared_for known.settings.connections known.declared name
