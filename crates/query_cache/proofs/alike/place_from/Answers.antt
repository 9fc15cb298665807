use Rattle.std.proofs.Common.{◌∙◌}
use Rattle.query_cache.proofs.Parts.{any_after, any_before}
use Rattle.query_cache.proofs.alike.place_from.Goals as goal

pub returns-in-Some-clause-among : goal.returns-in-Some-clause-among
returns-in-Some-clause-among g c = any_after (g.T.Alike.same c.args.one.now) _ _ _ c.split_at.ensures.by_index.0 c.in-Some.ensures.among

pub returns-in-None-clause-among : goal.returns-in-None-clause-among
returns-in-None-clause-among g c = c.first_place-in-None.ensures.among ∙ any_before (g.T.Alike.same c.args.one.now) _ _ _ c.split_at.ensures.by_index.0 c.in-None.ensures.among
