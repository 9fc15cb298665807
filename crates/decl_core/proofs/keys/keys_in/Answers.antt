-- One key more.
use Rattle.std.proofs.Common.{List, Option, ◌∷◌, ◌++◌, ◌+◌, drop, option_map, sym, ap, ◌∙◌}
use Rattle.std.proofs.lemmas.List.{at_drop_more}
use Rattle.serde_json.specs.View.{view, items_view}
use Rattle.serde_json.specs.declared.value.Value.{Value}
use Rattle.sp_model.specs.declared.declaration.KeyDecl.{KeyDecl}
use Rattle.decl_core.proofs.ReadOneByOne.{one_more}
use Rattle.decl_words.specs.Keys.{key_of}
use Rattle.decl_words.specs.Members.{each}
use Rattle.decl_core.proofs.keys.keys_in.Goals as goal

pub loop-value-preserved : goal.loop-value-preserved
loop-value-preserved c =
    let left : List Value → Option (List KeyDecl) = λ values. each (key_of c.args.columns.now) (items_view values) in
    let values = c.deref-value-items.result.now in
    let i = c.loop-value.value-index in
    c.loop-value.invariant
    ∙ ap (option_map (λ rest. c.loop-value.keys ++ rest)) (at_drop_more left values i c.value-item.result c.loop-value-test.true ∙ ap (λ v. left (v ∷ drop (i + 1) values)) (sym c.value-item.is))
    ∙ one_more c.loop-value.keys c.in-Some.key (key_of c.args.columns.now (view c.value-item.result)) (left (drop (i + 1) values)) (sym c.in_ok-key.ensures ∙ c.in-Some.is)
    ∙ ap (λ ks. option_map (λ rest. ks ++ rest) (left (drop (i + 1) values))) (sym c.in_ok-push.ensures.ok)
