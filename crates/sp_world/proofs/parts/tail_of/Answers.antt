use Rattle.std.proofs.Common.{◌∷◌, false, refl, ap, ◌∙◌}
use Rattle.serde_json.specs.Written.{compact_text, members_text}
use Rattle.sp_value.specs.Json.{members_from}
use Rattle.sp_world.proofs.Holes.{behind_text}
use Rattle.sp_world.proofs.parts.tail_of.Goals as goal

pub returns-clause-text : goal.returns-clause-text
returns-clause-text c = λ m ms is.
    let rest = members_text false (members_from (m ∷ ms)) in
    c.in_ok-tail.ensures rest (c.in_ok-text.ensures.text c.requires.no_float ∙ ap compact_text is) ∙ behind_text m ms rest refl
