-- What bytes read as.
use Rattle.std.proofs.Common.{◌≡◌, ℕ, List, Bool, true, false, Option, Some, None, option_map, cond, refl, sym, ap, ◌∙◌, String, Global, BTreeMap}
use Rattle.std.specs.Str.{is_utf8, IsUtf8}
use Rattle.std.proofs.lemmas.Str.{IsUtf8-from_is_utf8, is_utf8-from_IsUtf8}
use Rattle.toml.specs.Data.{Data, table}
use Rattle.toml.specs.Parse.{parse_document}
use Rattle.toml.specs.View.{view, table_view}
use Rattle.toml.specs.declared.value.Value.{Value, Table}
use Rattle.toml.proofs.Views.{view-Table}
use Rattle.settings_text.specs.Reading.{document_of}

none_at : (b : Bool) (d : Option Data) → (b ≡ true → ⊥) → cond b d None ≡ None
none_at true d h = absurd (h refl)
none_at false d h = refl

-- bytes that are no text are no document
pub document_of-no_text : (bytes : List ℕ) → ¬ (IsUtf8 bytes) → document_of bytes ≡ None
document_of-no_text bytes h = none_at (is_utf8 bytes) (option_map table (parse_document bytes)) (λ e. h (IsUtf8-from_is_utf8 bytes e))

-- a text is read as the table that it writes
pub document_of-text : (text bytes : List ℕ) (t : BTreeMap (String Global) Value) → text ≡ bytes → IsUtf8 bytes → parse_document text ≡ Some (table_view t) → document_of bytes ≡ Some (view (Table t))
document_of-text text bytes t same h parsed =
    ap (λ b. cond b (option_map table (parse_document bytes)) None) (is_utf8-from_IsUtf8 bytes h)
    ∙ ap (λ bs. option_map table (parse_document bs)) (sym same)
    ∙ ap (option_map table) parsed
    ∙ ap Some (sym (view-Table t))
