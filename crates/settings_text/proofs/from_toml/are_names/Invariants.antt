-- Whether those that are left are all names is whether all are.
use Rattle.std.proofs.Common.{◌≡◌, drop}
use Rattle.std.specs.List.{list_all}
use Rattle.sp_model.specs.Names.{is_name}
use Rattle.settings_text.proofs.from_toml.are_names.Given as goal

abbrev pub invariant-loop-text : goal.invariant-loop-text
invariant-loop-text l = list_all is_name (drop l.text-index l.texts) ≡ list_all is_name l.texts
