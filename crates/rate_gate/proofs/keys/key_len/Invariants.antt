use Rattle.std.proofs.Common.{◌≡◌, [], length, map, take}
use Rattle.std.specs.Option.{unwrap_or}
use Rattle.rate_gate.specs.Keys.{key_of}
use Rattle.rate_gate.specs.Limits.{value_of}
use Rattle.rate_gate.proofs.keys.key_len.Given as goal

abbrev pub invariant-loop-name : goal.invariant-loop-name
invariant-loop-name l = l.total ≡ length (key_of (map (λ name. unwrap_or (value_of name l.pairs) []) (take l.name-index l.scope)))
