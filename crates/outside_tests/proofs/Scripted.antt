-- The book of the tests' world keeps the forms of what lines say.
use Rattle.std.proofs.Common.{◌≡◌, ℕ, zero, suc, ◌≤◌, ◌==◌, [], ◌∷◌, Bool, true, false, cond, Some, refl, subst, lit<, lit≤}
use Rattle.std.specs.Prelude.{slice_get}
use Rattle.sp_value.proofs.Computing.{cells, folded}
use Rattle.sp_value.specs.Depth.{depth}
use Rattle.sp_value.specs.declared.cell.Cell.{Cell}
use Rattle.sp_value.specs.declared.cell.Cell as c
use Rattle.sp_model.specs.Sayable.{KeepsForms, IsItem, IsObject, IsSayableReply}
use Rattle.sp_model.specs.declared.call.Ending.TheVariants.{End, Error}
use Rattle.std.specs.Prelude.{codes}
use Rattle.outside_tests.specs.Scripted.{scripted}

empty_is_object : IsObject (c.Object [])
unfolding cells
empty_is_object = tt

empty_depth : depth (c.Object []) ≤ 100
empty_depth = simp folded (lit≤ tt)

empty_item : IsItem (c.Object [])
empty_item = (empty_is_object, empty_depth)

two_items : (place : ℕ) (item : Cell) → slice_get (c.Object [] ∷ c.Object [] ∷ []) place ≡ Some item → IsItem item
two_items zero item at = let is : c.Object [] ≡ item = cc in subst IsItem is empty_item
two_items (suc zero) item at = let is : c.Object [] ≡ item = cc in subst IsItem is empty_item
two_items (suc (suc place)) item at = cc

no_items : (place : ℕ) (item : Cell) → slice_get {X = Cell} [] place ≡ Some item → IsItem item
no_items place item at = cc

reply_form : (b : Bool) → IsSayableReply (cond b (record { items = c.Object [] ∷ c.Object [] ∷ []; ending = End }) (record { items = []; ending = Error (codes "no") }))
reply_form true = (two_items, lit< tt)
reply_form false = (no_items, lit< tt)

pub scripted_forms : KeepsForms scripted
scripted_forms = (λ key. reply_form (key.attempt == 1), λ connection tick. lit< tt, λ connection. (refl, lit≤ tt, refl))
