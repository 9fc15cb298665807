use Rattle.std.proofs.Common.{◌≡◌, ◌≤◌, length, drop}
use Rattle.std.specs.List.{list_any, list_all}
use Rattle.query_cache.proofs.alike.are_among.Given as goal

abbrev pub invariant-loop-one : goal.invariant-loop-one
invariant-loop-one g l = record {
  «in» : l.from ≤ length l.all;
  rest : list_all (λ one. list_any (g.T.Alike.same one) l.all) (drop l.one-index l.some) ≡ list_all (λ one. list_any (g.T.Alike.same one) l.all) l.some;
}
