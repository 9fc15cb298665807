-- One tag more.
use Rattle.std.proofs.Common.{◌≡◌, List, Option, Some, ◌++◌, option_map, string_bytes, sym, ap, ◌∙◌}
use Rattle.serde_json.proofs.Views.{Entry}
use Rattle.serde_json.specs.View.{view, members_view}
use Rattle.sp_model.specs.declared.settings.Pair.{Pair}
use Rattle.decl_core.proofs.ReadOneByOne.{one_more}
use Rattle.decl_words.specs.Rules.{tag_of, tags_in}
use Rattle.decl_core.proofs.rules.tags_in.Goals as goal

pub loop-key-preserved : goal.loop-key-preserved
loop-key-preserved c =
    let left : List Entry → Option (List Pair) = λ entries. tags_in (members_view entries) in
    let rest = c.next.new.self in
    let read : tag_of (string_bytes c.in-Some.key.now) (view c.in-Some.member.now) ≡ Some c.in-Some-2.tag =
    ap (λ name. tag_of name (view c.in-Some.member.now)) (sym c.as_str.ensures.value) ∙ sym c.in_ok-tag.ensures ∙ c.in-Some-2.is in
    c.loop-key.invariant
    ∙ ap (λ entries. option_map (λ more. c.loop-key.tags ++ more) (left entries)) c.in-Some.ensures.steps
    ∙ one_more c.loop-key.tags c.in-Some-2.tag (tag_of (string_bytes c.in-Some.key.now) (view c.in-Some.member.now)) (left rest) read
    ∙ ap (λ ts. option_map (λ more. ts ++ more) (left rest)) (sym c.in_ok-push.ensures.ok)
