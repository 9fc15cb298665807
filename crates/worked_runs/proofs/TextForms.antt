-- The book of a text keeps the forms of what lines say.
use Rattle.std.proofs.Common.{◌≡◌, ℕ, zero, suc, ◌≤◌, ◌&&◌, not, Bool, true, false, cond, List, [], length, Option, Some, None, refl, sym, subst, lit<, lit≤}
use Rattle.std.specs.Prelude.{nat_le, nat_lt, codes}
use Rattle.std.proofs.lemmas.Bool.{leb-true, ltb-true}
use Rattle.serde_json.specs.Data.{Data, null, boolean, number, string, array, object, Items, no_items, item, Members, no_members, depth}
use Rattle.serde_json.specs.Find.{get}
use Rattle.sp_value.proofs.Computing.{cells}
use Rattle.sp_value.proofs.JsonLaws.{some_object, depth_of_cell}
use Rattle.sp_value.specs.Json.{cell_of, pairs_of, has_odd_number}
use Rattle.sp_value.specs.declared.cell.Cell.{Cell}
use Rattle.sp_value.specs.declared.cell.Cell as c
use Rattle.sp_model.specs.Sayable.{KeepsForms, IsItem, IsObject, IsSayableReply, IsSayableDeclaration}
use Rattle.sp_model.specs.declared.call.Ending.{Ending}
use Rattle.sp_world.specs.ReplyLines.{item_of, is_shallow_object}
use Rattle.book_file.specs.Sayable.{AreItems}
use Rattle.sp_world.specs.LineJson.{text_at}
use Rattle.worked_runs.specs.TextWorld.{with_item, items_in, list_at, ending_of, or_no_reply, or_no_declaration, entry_in, call_text, text_data, text_book}

is_object : (ms : List (List ℕ × Cell)) → IsObject (c.Object ms)
unfolding cells
is_object ms = tt

shallow_item : (ms : Members) (x : Cell) (b : Bool) → nat_le (depth (object ms)) 100 ≡ b → cond b (cell_of (object ms)) None ≡ Some x → IsItem x
shallow_item ms x false e h = absurd (cc)
shallow_item ms x true e h =
    let r = some_object (pairs_of ms) x h in
    (subst IsObject r.2 (is_object r.0), subst (λ (n : ℕ). n ≤ 100) (sym (depth_of_cell (object ms) x h)) (leb-true (depth (object ms)) 100 e))

-- what JSON is as an item is one
item_is : (d : Data) (x : Cell) → item_of d ≡ Some x → IsItem x
item_is null x h = absurd (cc)
item_is (boolean b) x h = absurd (cc)
item_is (number n) x h = absurd (cc)
item_is (string s) x h = absurd (cc)
item_is (array ds) x h = absurd (cc)
item_is (object ms) x h = shallow_item ms x (nat_le (depth (object ms)) 100) refl h

with_item_are : (o : Option Cell) (xs : List Cell) → ((x : Cell) → o ≡ Some x → IsItem x) → AreItems xs → AreItems (with_item o xs)
with_item_are None xs one all place x at = all place x at
with_item_are (Some y) xs one all zero x at = one x at
with_item_are (Some y) xs one all (suc place) x at = all place x at

items_are : (ds : Items) → AreItems (items_in ds)
items_are no_items place x at = cc
items_are (item d ds) place x at = with_item_are (item_of d) (items_in ds) (item_is d) (items_are ds) place x at

few_sayable : (xs : List Cell) (ending : Ending) (b : Bool) → nat_lt (length xs) 1000000 ≡ b → AreItems xs → IsSayableReply (record { items = cond b xs []; ending = ending })
few_sayable xs ending true e all = (all, ltb-true (length xs) 1000000 e)
few_sayable xs ending false e all = (λ place x at. cc, lit< tt)

reply_sayable : (o : Option Data) → IsSayableReply (or_no_reply o)
reply_sayable None = (λ place x at. cc, lit< tt)
reply_sayable (Some d) =
    let cells = items_in (list_at (codes "items") d) in
    few_sayable cells (ending_of (text_at (codes "error") d)) (nat_lt (length cells) 1000000) refl (items_are (list_at (codes "items") d))

shallow_sayable : (d : Data) → is_shallow_object d ≡ true → has_odd_number d ≡ false → IsSayableDeclaration d
shallow_sayable null p q = absurd (cc)
shallow_sayable (boolean b) p q = absurd (cc)
shallow_sayable (number n) p q = absurd (cc)
shallow_sayable (string s) p q = absurd (cc)
shallow_sayable (array ds) p q = absurd (cc)
shallow_sayable (object ms) p q = (refl, leb-true (depth (object ms)) 100 p, q)

checked_sayable : (d : Data) (b e : Bool) → is_shallow_object d ≡ b → has_odd_number d ≡ e → IsSayableDeclaration (cond (b && not e) d (object no_members))
checked_sayable d true false p q = shallow_sayable d p q
checked_sayable d true true p q = (refl, lit≤ tt, refl)
checked_sayable d false e p q = (refl, lit≤ tt, refl)

declaration_sayable : (o : Option Data) → IsSayableDeclaration (or_no_declaration o)
declaration_sayable None = (refl, lit≤ tt, refl)
declaration_sayable (Some d) = checked_sayable d (is_shallow_object d) (has_odd_number d) refl refl

pub text_forms : (text : List ℕ) → KeepsForms (text_book text)
text_forms text =
    let d = text_data text in
    (λ key. reply_sayable (entry_in (call_text key) (list_at (codes "replies") d)), λ connection tick. lit< tt, λ connection. declaration_sayable (get (codes "declaration") d))
