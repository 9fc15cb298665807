-- The lines of items, one after another.
use Rattle.std.proofs.Common.{◌≡◌, ℕ, zero, suc, ◌<◌, List, [], ◌∷◌, ◌++◌, length, take, drop, get_or, sym, ap, ◌∙◌, append_assoc, append-nil, arith}
use Rattle.sp_value.specs.declared.cell.Cell.{Cell}
use Rattle.sp_world.specs.ReplyLines.{Item}
use Rattle.plugin_kit.specs.Replies.{line_text}
use Rattle.plugin_kit.specs.Said.{items_text}

-- the lines up to an item, and its own
pub items_to : (id k : ℕ) (items : List Cell) (x : Cell) → k < length items → x ≡ get_or items k x
    → items_text id (take (suc k) items) ≡ items_text id (take k items) ++ line_text (Item id x)
items_to id zero [] x h is = absurd (omega (arith, h))
items_to id zero (y ∷ items) x h is = append-nil (line_text (Item id y)) ∙ ap (λ z. line_text (Item id z)) (sym is)
items_to id (suc k) [] x h is = absurd (omega (arith, h))
items_to id (suc k) (y ∷ items) x h is =
    ap (λ t. line_text (Item id y) ++ t) (items_to id k items x (omega (arith, h)) is)
    ∙ sym (append_assoc (line_text (Item id y)) (items_text id (take k items)) (line_text (Item id x)))

-- the lines before an item, its own, and those after it
pub items_at : (id k : ℕ) (items : List Cell) (x : Cell) → k < length items → x ≡ get_or items k x
    → items_text id items ≡ items_text id (take k items) ++ (line_text (Item id x) ++ items_text id (drop (suc k) items))
items_at id zero [] x h is = absurd (omega (arith, h))
items_at id zero (y ∷ items) x h is = ap (λ z. line_text (Item id z) ++ items_text id items) (sym is)
items_at id (suc k) [] x h is = absurd (omega (arith, h))
items_at id (suc k) (y ∷ items) x h is =
    ap (λ t. line_text (Item id y) ++ t) (items_at id k items x (omega (arith, h)) is)
    ∙ sym (append_assoc (line_text (Item id y)) (items_text id (take k items)) (line_text (Item id x) ++ items_text id (drop (suc k) items)))
