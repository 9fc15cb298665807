use Rattle.std.proofs.Common.{ap, ◌∙◌, refl}
use Rattle.std.proofs.lemmas.Str.{IsUtf8-had}
use Rattle.sp_world.specs.LineJson.{json_of}
use Rattle.sp_world.proofs.LineTexts.{json_of-text}
use Rattle.sp_world.proofs.line_json.spell.Goals as goal

pub returns-clause-read : goal.returns-clause-read
returns-clause-read c = λ h.
    let same = ap (λ v. v.items) c.into_bytes.ensures.value in
    ap json_of same ∙ json_of-text _ _ refl (IsUtf8-had _ c.in-Ok.text.ok) ∙ c.in-Ok.ensures.reads_back h
