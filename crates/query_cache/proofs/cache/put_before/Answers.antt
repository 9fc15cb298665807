use Rattle.std.proofs.Common.{map, ◌∷◌, sym, ap, ◌∙◌}
use Rattle.std.specs.Arc.{arc_value}
use Rattle.std.specs.List.{take-map}
use Rattle.query_cache.proofs.cache.put_before.Goals as goal

pub returns-clause-items : goal.returns-clause-items
returns-clause-items g c =
    ap (map arc_value) (c.push_front.ensures.items ∙ ap (λ ys. c.args.kept ∷ ys) c.truncate.ensures.items) ∙ ap (λ ys. arc_value c.args.kept ∷ ys) (sym (take-map arc_value c.args.others c.args.entries.now.items))
