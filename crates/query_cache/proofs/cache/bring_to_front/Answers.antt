use Rattle.std.proofs.Common.{map, ap, ◌∷◌, ◌∙◌}
use Rattle.std.specs.Arc.{arc_value}
use Rattle.query_cache.proofs.Fronts.{moved}
use Rattle.query_cache.proofs.cache.bring_to_front.Goals as goal

pub returns-clause-items : goal.returns-clause-items
returns-clause-items g c = ap (map arc_value) (c.push_front.ensures.items ∙ ap (λ ys. c.remove-kept.result ∷ ys) c.remove-kept.ensures.items) ∙ moved arc_value c.args.entries.now.items c.args.place c.remove-kept.result c.requires.item c.remove-kept.ensures.value
