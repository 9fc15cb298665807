use Rattle.std.proofs.Common.{length, drop, ap, arith, length-append}
use Rattle.rate_gate.specs.Keys.{spelled}
use Rattle.rate_gate.proofs.KeyLemmas.{length_spelled}
use Rattle.rate_gate.proofs.keys.push_value.Goals as goal

pub push_reserved-requires : goal.push_reserved-requires
push_reserved-requires c =
    let left = drop c.loop-byte.byte-index c.args.value.now in
    let whole = ap length c.loop-byte.invariant.items in
    let a = length-append c.loop-byte.key.items (spelled left) in
    let b = length-append c.args.key.now.items (spelled c.args.value.now) in
    let one = length_spelled left in
    let room = c.loop-byte.invariant.room in
    let len = c.loop-byte.key.ok.0 in
    let fits = c.requires in
    omega arith
