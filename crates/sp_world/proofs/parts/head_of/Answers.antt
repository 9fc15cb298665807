use Rattle.std.proofs.Common.{◌∷◌, false, ap, ◌∙◌}
use Rattle.serde_json.specs.Written.{compact_text}
use Rattle.sp_world.specs.LineParts.{member_texts}
use Rattle.sp_world.proofs.Holes.{before_text}
use Rattle.sp_world.proofs.parts.head_of.Goals as goal

pub opened-requires : goal.opened-requires
opened-requires c =
    let object = c.requires.object in
    let ms = object.0 ∷ object.1 in
    (123 ∷ member_texts false ms, c.in_ok-text.ensures.text c.requires.no_float ∙ ap compact_text object.2 ∙ before_text ms)

pub returns-clause-text : goal.returns-clause-text
returns-clause-text c = λ ms is.
    c.in_ok-head.ensures (123 ∷ member_texts false ms) (c.in_ok-text.ensures.text c.requires.no_float ∙ ap compact_text is ∙ before_text ms)
