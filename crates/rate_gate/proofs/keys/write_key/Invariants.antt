use Rattle.std.proofs.Common.{◌≡◌, [], map, take}
use Rattle.std.specs.Option.{unwrap_or}
use Rattle.std.specs.Vec.{vec_capacity}
use Rattle.rate_gate.specs.Keys.{key_of}
use Rattle.rate_gate.specs.Limits.{value_of}
use Rattle.rate_gate.proofs.keys.write_key.Given as goal

abbrev pub invariant-loop-name : goal.invariant-loop-name
invariant-loop-name l = record {
  items : l.key.items ≡ key_of (map (λ name. unwrap_or (value_of name l.pairs) []) (take l.name-index l.scope));
  room : vec_capacity l.key ≡ vec_capacity l.fn.key;
}
