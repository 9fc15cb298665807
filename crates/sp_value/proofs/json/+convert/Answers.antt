use Rattle.std.proofs.Common.{◌≡◌, ◌∷◌, ◌++◌, [], ap, ◌∙◌, sym, subst, string_bytes, append-nil}
use Rattle.serde_json.proofs.Views.{Entry}
use Rattle.sp_value.specs.Names.{rise}
use Rattle.sp_value.proofs.JsonLaws.{Filled, fill}
use Rattle.sp_value.proofs.Rising.{names_rise, names_in}
use Rattle.sp_value.proofs.json.+convert.Goals as goal

pub convert_members-loop-key-preserved : goal.convert_members-loop-key-preserved
convert_members-loop-key-preserved t c =
    let l = c.loop-key in
    let e : Entry = (c.in-Some.key.now, c.in-Some.member.now) in
    let before : Filled c.args.members.now.entries (e ∷ c.next.new.self) l.names.items l.values.items = subst (λ es. Filled c.args.members.now.entries es l.names.items l.values.items) c.in-Some.ensures.steps l.invariant in
    let named : c.in_ok-name.name ≡ string_bytes e.0 = c.in_ok-name.ensures ∙ c.as_str.ensures.value in
    let names : l.names.items ++ string_bytes e.0 ∷ [] ≡ c.push.new.self.items = ap (λ n. l.names.items ++ n ∷ []) (sym named) ∙ sym c.in_ok-push.ensures.items in
    let after = fill c.args.members.now.entries e c.next.new.self l.names.items l.values.items c.in_ok-value.value before c.in_ok-value.ensures in
    subst (λ ns. Filled c.args.members.now.entries c.next.new.self ns c.push-in-loop-key.new.self.items) names (subst (λ vs. Filled c.args.members.now.entries c.next.new.self (l.names.items ++ string_bytes e.0 ∷ []) vs) (sym c.in_ok-push-2.ensures.items) after)

pub convert_members-from_parts-requires-clause-rising : goal.convert_members-from_parts-requires-clause-rising
convert_members-from_parts-requires-clause-rising t c =
    let l = c.loop-key in
    let all : l.names.items ≡ names_in c.args.members.now.entries = sym (append-nil l.names.items) ∙ ap (λ es. l.names.items ++ names_in es) (sym c.in-None.ensures.steps.0) ∙ l.invariant.2 in
    ap rise (c.from_vec.ensures ∙ all) ∙ names_rise c.args.members.now.entries c.iter-key-items.ensures.ordered
