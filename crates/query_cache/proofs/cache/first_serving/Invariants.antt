use Rattle.std.proofs.Common.{◌≡◌, ◌+◌, ◌≤◌, drop, length, map}
use Rattle.std.specs.Arc.{arc_value}
use Rattle.std.specs.List.{position_or_len}
use Rattle.query_cache.specs.Entries.{serves}
use Rattle.query_cache.proofs.cache.first_serving.Given as goal

abbrev pub invariant-loop-index : goal.invariant-loop-index
invariant-loop-index g l = record {
  within : l.index ≤ length l.entries;
  rest : l.index + position_or_len (serves l.request l.tick l.ttl) (map arc_value (drop l.index l.entries)) ≡ position_or_len (serves l.request l.tick l.ttl) (map arc_value l.entries);
}
