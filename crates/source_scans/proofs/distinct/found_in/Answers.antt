use Rattle.std.proofs.Common.{◌≡◌, ◌++◌, ◌∷◌, ◌+◌, drop, sym, ap, ◌∙◌}
use Rattle.sp_model.specs.Units.{distinct_values}
use Rattle.source_scans.proofs.EachValue.{values, turn}
use Rattle.source_scans.proofs.Places.{rest_is}
use Rattle.source_scans.proofs.distinct.found_in.Goals as goal

pub loop-value-preserved : goal.loop-value-preserved
loop-value-preserved c =
    let all = c.args.values.now in
    let n = c.loop-value.value-index in
    let x = c.value-item.result in
    let found = c.loop-value.found.keys in
    let rest : drop n all ≡ x ∷ drop (n + 1) all = rest_is all n x c.loop-value-test.true c.value-item.is in
    ap (λ keys. values keys ++ distinct_values (values keys) (drop (n + 1) all)) (c.in_ok-put.ensures {u = tt})
    ∙ turn found x (drop (n + 1) all) ∙ ap (λ xs. values found ++ distinct_values (values found) xs) (sym rest) ∙ c.loop-value.invariant
