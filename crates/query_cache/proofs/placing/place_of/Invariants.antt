use Rattle.std.proofs.Common.{◌≡◌, ◌+◌, ◌≤◌, drop, length, bytes_eq}
use Rattle.std.specs.List.{position_or_len}
use Rattle.query_cache.proofs.placing.place_of.Given as goal

abbrev pub invariant-loop-index : goal.invariant-loop-index
invariant-loop-index l = record {
  within : l.index ≤ length l.names;
  rest : l.index + position_or_len (λ known. bytes_eq known l.name) (drop l.index l.names) ≡ position_or_len (λ known. bytes_eq known l.name) l.names;
}
