use Rattle.std.proofs.Common.{◌≡◌, ◌++◌, drop}
use Rattle.std.specs.Vec.{vec_capacity}
use Rattle.rate_gate.specs.Keys.{spelled}
use Rattle.rate_gate.proofs.keys.push_value.Given as goal

-- with what is left the key has the whole value
abbrev pub invariant-loop-byte : goal.invariant-loop-byte
invariant-loop-byte l = record {
  items : l.key.items ++ spelled (drop l.byte-index l.value) ≡ l.fn.key.items ++ spelled l.value;
  room : vec_capacity l.key ≡ vec_capacity l.fn.key;
}
