-- A name is among the keys where it is among their names.
use Rattle.std.proofs.Common.{sym, ◌∙◌, ap}
use Rattle.sp_model.specs.Names.{has_name}
use Rattle.name_set.proofs.Keys.{has_name_keys}
use Rattle.name_set.proofs.set.NameSet.contains.Goals as goal

pub returns : goal.returns
returns c = c.contains.ensures ∙ sym (has_name_keys c.args.name.now c.self.inside.names.keys) ∙ ap (λ s. has_name s c.args.name.now) c.self.view_is
