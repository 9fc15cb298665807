use Rattle.std.proofs.Common.{◌≡◌, ◌≤◌, false, ap, sym, ◌∙◌, subst, string_bytes, arith}
use Rattle.std.proofs.lemmas.Str.{IsUtf8-had}
use Rattle.serde_json.specs.Data.{object, depth}
use Rattle.serde_json.specs.Read.{max_depth}
use Rattle.serde_json.specs.View.{view}
use Rattle.sp_value.specs.Json.{has_odd_number, members_from}
use Rattle.sp_world.specs.LineParts.{IsRound, tail_text}
use Rattle.sp_world.specs.RequestLines.{members_before, members_behind}
use Rattle.sp_world.proofs.Holes.{some_before, some_behind, before_form, behind_form, are_parts, read_back}
use Rattle.sp_world.proofs.parts.line_parts.Goals as goal

pub head_of-requires-clause-object : goal.head_of-requires-clause-object
head_of-requires-clause-object c =
    let some = some_before c.args.asked.now c.args.function.now in
    (some.0, some.1, c.in_ok-before.ensures.value ∙ ap (λ ms. object (members_from ms)) some.2)

pub tail_of-requires-clause-object : goal.tail_of-requires-clause-object
tail_of-requires-clause-object c =
    let some = some_behind c.args.asked.now in
    (some.0, some.1, c.in_ok-behind.ensures.value ∙ ap (λ ms. object (members_from ms)) some.2)

pub returns-clause-line : goal.returns-clause-line
returns-clause-line c =
    let what = c.args.asked.now in
    let function = c.args.function.now in
    let some = some_behind what in
    are_parts what function c.in_ok-parts.parts.head.items c.in_ok-parts.parts.tail.items
    (c.in_ok-parts.ensures.0 ∙ c.in_ok-head.ensures.text (members_before function what) c.in_ok-before.ensures.value)
    (c.in_ok-parts.ensures.1 ∙ c.in_ok-tail.ensures.text some.0 some.1 (c.in_ok-behind.ensures.value ∙ ap (λ ms. object (members_from ms)) some.2) ∙ ap tail_text (sym some.2))

pub returns-clause-read : goal.returns-clause-read
returns-clause-read c = λ form.
    let what = c.args.asked.now in
    let function = c.args.function.now in
    let before = c.in_ok-before.ensures in
    let behind = c.in_ok-behind.ensures in
    let some = some_behind what in
    let nests : depth (view c.in_ok-before.before) ≤ max_depth = omega (arith, before.nests (before_form what function form)) in
    let nests_behind : depth (view c.in_ok-behind.behind) ≤ max_depth = omega (arith, behind.nests (behind_form what function form)) in
    read_back what function form (string_bytes c.in_ok-head.head) (string_bytes c.in_ok-tail.tail)
    (are_parts what function (string_bytes c.in_ok-head.head) (string_bytes c.in_ok-tail.tail)
    (c.in_ok-head.ensures.text (members_before function what) before.value)
    (c.in_ok-tail.ensures.text some.0 some.1 (behind.value ∙ ap (λ ms. object (members_from ms)) some.2) ∙ ap tail_text (sym some.2)))
    (IsUtf8-had _ c.in_ok-head.head.ok) (IsUtf8-had _ c.in_ok-tail.tail.ok)
    (subst IsRound before.value (c.in_ok-head.ensures.round nests)) (subst IsRound behind.value (c.in_ok-tail.ensures.round nests_behind))
    (sym (ap has_odd_number before.value) ∙ before.whole) (sym (ap has_odd_number behind.value) ∙ behind.whole (behind_form what function form))
    (before.back (before_form what function form)) (behind.back (behind_form what function form))
