-- Connections that all declare the same.
use Rattle.std.specs.Prelude.{◌≡◌, ℕ, List, Option, Some, None, if◌then◌else◌}
use Rattle.sp_model.specs.declared.declaration.Declaration.{Declaration}
use Rattle.sp_model.specs.declared.settings.Settings.{Settings}
use Rattle.sql_bind.specs.Known.{Known, is_connection, declaration_of}

-- each connection of the settings declares this
abbrev pub alike : Settings → Declaration → List ℕ → Option Declaration
alike settings d name = if is_connection settings name then Some d else None

pub record DeclareAlike (settings : Settings) (d : Declaration) (known : Known) : Type 0 where
  pub settings_are : known.settings ≡ settings
  pub declared : (name : List ℕ) → declaration_of known name ≡ alike settings d name
