-- What bytes read as.
use Rattle.std.proofs.Common.{◌≡◌, ℕ, List, Bool, true, false, Option, None, cond, refl, sym, ap, ◌∙◌}
use Rattle.std.specs.Str.{is_utf8, IsUtf8}
use Rattle.std.proofs.lemmas.Str.{IsUtf8-from_is_utf8, is_utf8-from_IsUtf8}
use Rattle.serde_json.specs.Data.{Data}
use Rattle.serde_json.specs.Read.{read}
use Rattle.sp_world.specs.LineJson.{json_of}

none_at : (b : Bool) (d : Option Data) → (b ≡ true → ⊥) → cond b d None ≡ None
none_at true d h = absurd (h refl)
none_at false d h = refl

-- bytes that are no text are no JSON
pub no_text : (bytes : List ℕ) → ¬ (IsUtf8 bytes) → json_of bytes ≡ None
no_text bytes h = none_at (is_utf8 bytes) (read bytes) (λ e. h (IsUtf8-from_is_utf8 bytes e))

-- a text is read as it is
pub as_text : (text bytes : List ℕ) → text ≡ bytes → IsUtf8 bytes → json_of bytes ≡ read text
as_text text bytes same h = ap (λ b. cond b (read bytes) None) (is_utf8-from_IsUtf8 bytes h) ∙ sym (ap read same)
