-- A name's place among the keys is its place among their names.
use Rattle.std.proofs.Common.{sym, ◌∙◌, ap, position, bytes_eq}
use Rattle.name_set.proofs.Keys.{position_of_key}
use Rattle.name_set.proofs.set.NameSet.place.Goals as goal

pub returns : goal.returns
returns c = c.get_index_of.ensures.index ∙ sym (position_of_key c.args.name.now c.self.inside.names.keys) ∙ ap (λ s. position (bytes_eq c.args.name.now) s) c.self.view_is
