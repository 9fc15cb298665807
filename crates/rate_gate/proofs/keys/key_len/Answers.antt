use Rattle.std.proofs.Common.{ℕ, List, [], length, map, take, get_or, ap, ◌∙◌, arith, length-append}
use Rattle.std.specs.Option.{unwrap_or}
use Rattle.rate_gate.specs.Keys.{spelled, key_of}
use Rattle.rate_gate.specs.Limits.{value_of}
use Rattle.rate_gate.proofs.KeyLemmas.{key_next, length_spelled}
use Rattle.rate_gate.proofs.keys.key_len.Goals as goal

pub loop-name-preserved : goal.loop-name-preserved
loop-name-preserved c =
    let f : List ℕ → List ℕ = (λ name. unwrap_or (value_of name c.args.pairs.now) []) in
    let d = c.name-item.result in
    let value = ap length (c.value_bytes-value.ensures ∙ ap f c.name-item.is) in
    let next = ap length (key_next f c.args.scope.now c.loop-name.name-index d c.loop-name-test.true) in
    let long = length-append (key_of (map f (take c.loop-name.name-index c.args.scope.now))) (spelled (f (get_or c.args.scope.now c.loop-name.name-index d))) in
    let one = length_spelled (f (get_or c.args.scope.now c.loop-name.name-index d)) in
    let was = c.loop-name.invariant in
    let more = c.in-Some.ensures.1 in
    let sum = c.in-Some-checked_add.ensures.1 in
    omega arith
