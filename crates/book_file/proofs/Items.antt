-- Lists of objects that nest at most 100 deep.
use Rattle.std.proofs.Common.{◌≡◌, ℕ, zero, suc, ◌<◌, List, [], ◌∷◌, ◌++◌, length, get_or, refl, sym, subst, arith, lit<}
use Rattle.sp_value.specs.declared.cell.Cell.{Cell}
use Rattle.sp_model.specs.Sayable.{IsItem, IsSayableReply}
use Rattle.sp_model.specs.declared.call.Ending.{Ending}
use Rattle.book_file.specs.Sayable.{AreItems}

pub items_none : AreItems []
items_none place item at = cc

pub items_push : (xs : List Cell) (x : Cell) → AreItems xs → IsItem x → AreItems (xs ++ x ∷ [])
items_push [] x all is zero item at = let same : x ≡ item = cc in subst IsItem same is
items_push [] x all is (suc place) item at = cc
items_push (y ∷ ys) x all is zero item at = all zero item at
items_push (y ∷ ys) x all is (suc place) item at = items_push ys x (λ p i a. all (suc p) i a) is place item at

pub item_at : (xs : List Cell) (k : ℕ) (x : Cell) → AreItems xs → k < length xs → x ≡ get_or xs k x → IsItem x
item_at [] k x all h is = absurd (omega (arith, h))
item_at (y ∷ ys) zero x all h is = subst IsItem (sym is) (all zero y refl)
item_at (y ∷ ys) (suc k) x all h is = item_at ys k x (λ p i a. all (suc p) i a) (omega (arith, h)) is

pub error_alone : (ending : Ending) → IsSayableReply (record { items = []; ending = ending })
error_alone ending = (items_none, lit< tt)
