-- The small book can be said by lines.
use Rattle.std.proofs.Common.{◌≡◌, ℕ, zero, suc, ◌≤◌, ◌<◌, Bool, true, false, cond, List, [], ◌∷◌, length, filter, slice_get, codes, Some, refl, subst, lit<, lit≤, arith}
use Rattle.sp_value.proofs.Computing.{cells, folded}
use Rattle.sp_value.specs.Depth.{depth}
use Rattle.sp_value.specs.declared.cell.Cell.{Cell}
use Rattle.sp_model.specs.Sayable.{KeepsForms, IsItem, IsObject, IsSayableReply}
use Rattle.sp_model.specs.declared.call.Call.{Call}
use Rattle.sp_model.specs.declared.call.Call.TheVariants as call
use Rattle.sp_model.specs.declared.call.Ending.TheVariants.{End}
use Rattle.model_laws.specs.FilteringBooks.{hold_of}
use Rattle.worked_values.specs.Filtering.{thing, things, filtered, filtering}
use Rattle.worked_values.specs.Samples.{item}

is_object : (n : ℕ) (name : List ℕ) → IsObject (thing n name)
unfolding cells
is_object n name = tt

is_flat : (n : ℕ) (name : List ℕ) → depth (thing n name) ≤ 100
is_flat n name = simp folded (lit≤ tt)

is_item : (n : ℕ) (name : List ℕ) → IsItem (thing n name)
is_item n name = (is_object n name, is_flat n name)

abbrev AreItems : List Cell → Type 0
AreItems xs = (place : ℕ) (x : Cell) → slice_get xs place ≡ Some x → IsItem x

none : AreItems []
none place x at = cc

one_more : (y : Cell) (ys : List Cell) → IsItem y → AreItems ys → AreItems (y ∷ ys)
one_more y ys first rest zero x at = let is : y ≡ x = cc in subst IsItem is first
one_more y ys first rest (suc place) x at = rest place x at

-- at most two, which are items
abbrev IsShort : List Cell → Type 0
IsShort xs = AreItems xs × (length xs ≤ 2)

kept_or_not : (b : Bool) (y : Cell) (ys : List Cell) (n : ℕ) → IsItem y → AreItems ys × (length ys ≤ n) → AreItems (cond b (y ∷ ys) ys) × (length (cond b (y ∷ ys) ys) ≤ suc n)
kept_or_not true y ys n first rest = (one_more y ys first rest.0, omega (arith, rest.1))
kept_or_not false y ys n first rest = (rest.0, omega (arith, rest.1))

some_things : (p : Cell → Bool) → IsShort (filter p things)
some_things p =
    kept_or_not (p (thing 1 (codes "ant"))) (thing 1 (codes "ant")) (filter p (thing 2 (codes "bee") ∷ [])) 1 (is_item 1 (codes "ant"))
    (kept_or_not (p (thing 2 (codes "bee"))) (thing 2 (codes "bee")) [] 0 (is_item 2 (codes "bee")) (none, omega arith))

said : (xs : List Cell) → IsShort xs → IsSayableReply (record { items = xs; ending = End })
said xs short = (short.0, few (length xs) short.1)
  where
    few : (n : ℕ) → n ≤ 2 → n < 1000000
    few n h = omega (arith, h)

nothing : IsShort []
nothing = (none, omega arith)

each_call : (asked : Call) → IsSayableReply (record { items = filtered asked; ending = End })
each_call (call.List table conditions parent) = said (filter (hold_of item.columns conditions) things) (some_things (hold_of item.columns conditions))
each_call (call.Parents table) = said [] nothing
each_call (call.Get table conditions) = said [] nothing
each_call (call.Hydrate table function x results) = said [] nothing

pub filtering_forms : KeepsForms filtering
filtering_forms = (λ key. each_call key.call, λ connection tick. lit< tt, λ connection. (refl, lit≤ tt, refl))
