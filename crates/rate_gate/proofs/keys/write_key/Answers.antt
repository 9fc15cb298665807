use Rattle.std.proofs.Common.{ℕ, List, [], ◌++◌, length, map, take, ap, sym, ◌∙◌, arith}
use Rattle.std.specs.Option.{unwrap_or}
use Rattle.rate_gate.specs.Keys.{spelled, key_of}
use Rattle.rate_gate.specs.Limits.{value_of}
use Rattle.rate_gate.proofs.KeyLemmas.{key_next, key_part}
use Rattle.rate_gate.proofs.keys.write_key.Goals as goal

pub push_value-requires : goal.push_value-requires
push_value-requires c =
    let f : List ℕ → List ℕ = (λ name. unwrap_or (value_of name c.args.pairs.now) []) in
    let value = ap (λ (v : List ℕ). length (spelled v)) (c.value_bytes.ensures ∙ ap f c.name-item.is) in
    let part = key_part f c.args.scope.now c.loop-name.name-index c.name-item.result c.loop-name-test.true in
    let was = ap length c.loop-name.invariant.items in
    let room = c.loop-name.invariant.room in
    let fits = c.requires in
    omega arith

pub loop-name-preserved : goal.loop-name-preserved
loop-name-preserved c =
    let f : List ℕ → List ℕ = (λ name. unwrap_or (value_of name c.args.pairs.now) []) in
    let i = c.loop-name.name-index in
    let value = c.value_bytes.ensures ∙ ap f c.name-item.is in
    record {
      items = c.push_value.ensures.items ∙ (ap (λ (k : List ℕ). k ++ spelled c.value_bytes.result.now) c.loop-name.invariant.items
          ∙ (ap (λ (v : List ℕ). key_of (map f (take i c.args.scope.now)) ++ spelled v) value ∙ sym (key_next f c.args.scope.now i c.name-item.result c.loop-name-test.true)));
      room = c.push_value.ensures.room ∙ c.loop-name.invariant.room;
    }
