-- A text without control characters.
use Rattle.std.proofs.Common.{◌≡◌, ℕ, List, [], ◌∷◌, ◌||◌, Bool, true, false, refl, ap}
use Rattle.std.specs.List.{list_any}
use Rattle.sp_value.proofs.JsonLaws.{first_false, second_false}
use Rattle.answer_text.specs.Columns.{is_control, escaped}

pub plain : (words : List ℕ) → list_any is_control words ≡ false → escaped words ≡ words
plain [] none = refl
plain (b ∷ bs) none =
    let first : is_control b ≡ false = first_false (is_control b) (list_any is_control bs) none in
    rw first (ap (λ rest. b ∷ rest) (plain bs (second_false (is_control b) (list_any is_control bs) none)))
