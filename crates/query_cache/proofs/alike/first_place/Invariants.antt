use Rattle.std.proofs.Common.{◌≡◌, drop}
use Rattle.std.specs.List.{list_any}
use Rattle.query_cache.proofs.alike.first_place.Given as goal

abbrev pub invariant-loop-index : goal.invariant-loop-index
invariant-loop-index g l = list_any (g.T.Alike.same l.one) (drop l.index l.all) ≡ list_any (g.T.Alike.same l.one) l.all
