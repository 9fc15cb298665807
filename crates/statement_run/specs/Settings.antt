-- Settings by which statements can be answered.
use Rattle.std.specs.Prelude.{◌≡◌, ◌≤◌, Bool, true}
use Rattle.std.specs.List.{list_all}
use Rattle.sp_model.specs.Names.{has_name}
use Rattle.sp_model.specs.declared.settings.Settings.{Settings}
use Rattle.statement_words.specs.Runs.{plain_names}

-- each member of a connection is a plain connection of the same settings
abbrev pub members_are_plain : Settings → Bool
members_are_plain settings = list_all (λ c. list_all (has_name (plain_names settings.connections)) c.members) settings.connections

-- statements can be answered by these settings: members are plain connections, and the window is in its range
pub record CanRun (settings : Settings) : Type 0 where
  pub members : members_are_plain settings ≡ true
  pub least : 1 ≤ settings.options.window
  pub most : settings.options.window ≤ 4096
