-- The book of the generated world can be said by lines.
use Rattle.std.proofs.Common.{◌≡◌, ℕ, zero, suc, ◌+◌, ◌≤◌, ◌<◌, Bool, true, false, cond, ◌&&◌, List, [], ◌∷◌, length, map, Option, Some, None, refl, ap, sym, subst, lit<, lit≤, arith}
use Rattle.std.specs.Prelude.{slice_get, codes, bytes_eq, nat_le, IfSome, ◌==◌, ◌%◌}
use Rattle.std.specs.List.{range_with_len}
use Rattle.std.proofs.lemmas.List.FromFn.{length-map-range_with_len}
use Rattle.serde_json.proofs.OnLiterals.{serde_json_on_literals}
use Rattle.sp_value.proofs.Computing.{cells, folded}
use Rattle.sp_value.specs.Depth.{depth}
use Rattle.sp_value.specs.declared.cell.Cell.{Cell}
use Rattle.sp_model.specs.Sayable.{KeepsForms, IsItem, IsObject, IsSayableReply, IsSayableDeclaration}
use Rattle.sp_model.specs.declared.call.Call.{Call}
use Rattle.sp_model.specs.declared.call.Call.TheVariants as call
use Rattle.sp_model.specs.declared.call.Condition.{Condition}
use Rattle.sp_model.specs.declared.call.Ending.{Ending}
use Rattle.sp_model.specs.declared.call.Ending.TheVariants.{End, Error}
use Rattle.load_gen.specs.Asked.{natural, id_of, is_equality, within, size_in, size_of}
use Rattle.load_gen.specs.Generated.{gives, throttled, owner_reply, function_reply, row_reply, list_reply, call_reply, declaration, generated}
use Rattle.load_gen.specs.Rows.{item, items, is_throttled, owner, score}

-- ---- items

item_object : (size id : ℕ) → IsObject (item size id)
unfolding cells
item_object size id = tt

item_depth : (size id : ℕ) → depth (item size id) ≤ 100
item_depth size id = simp folded (lit≤ tt)

owner_object : (id : ℕ) → IsObject (owner id)
unfolding cells
owner_object id = tt

owner_depth : (id : ℕ) → depth (owner id) ≤ 100
owner_depth id = simp folded (lit≤ tt)

score_object : (id : ℕ) → IsObject (score id)
unfolding cells
score_object id = tt

score_depth : (id : ℕ) → depth (score id) ≤ 100
score_depth id = simp folded (lit≤ tt)

abbrev AreItems : List Cell → Type 0
AreItems xs = (place : ℕ) (x : Cell) → slice_get xs place ≡ Some x → IsItem x

no_items : AreItems []
no_items place x at = cc

one_item : (y : Cell) → IsItem y → AreItems (y ∷ [])
one_item y is zero x at = let same : y ≡ x = cc in subst IsItem same is
one_item y is (suc place) x at = cc

made_items : (f : ℕ → Cell) → ((n : ℕ) → IsItem (f n)) → (from count : ℕ) → AreItems (map f (range_with_len from count))
made_items f all from zero place x at = cc
made_items f all from (suc count) zero x at = let same : f from ≡ x = cc in subst IsItem same (all from)
made_items f all from (suc count) (suc place) x at = made_items f all (from + 1) count place x at

-- ---- the size of a list

chosen : (b : Bool) (n : ℕ) → (b ≡ true → n ≤ 100000) → IfSome (cond b (Some n) None) (λ m. m ≤ 100000)
chosen true n h = h refl
chosen false n h = tt

both : (a b : Bool) → (a && b) ≡ true → b ≡ true
both true b h = h
both false b h = cc

pub within_bound : (o : Option ℕ) → IfSome (within o) (λ n. n ≤ 100000)
within_bound None = tt
within_bound (Some n) = chosen (nat_le 1 n && nat_le n 100000) n (λ h. let le : nat_le n 100000 ≡ true = both (nat_le 1 n) (nat_le n 100000) h in grind arith)

passed : (b : Bool) (o : Option ℕ) → IfSome o (λ n. n ≤ 100000) → IfSome (cond b o None) (λ n. n ≤ 100000)
passed true o h = h
passed false o h = tt

pub size_bound : (conditions : List Condition) → IfSome (size_of conditions) (λ n. n ≤ 100000)
size_bound [] = tt
size_bound (condition ∷ []) = passed (bytes_eq condition.column (codes "size") && is_equality condition.operator) (within (natural condition.value)) (within_bound (natural condition.value))
size_bound (condition ∷ other ∷ more) = tt

-- ---- replies

nothing : (ending : Ending) → IsSayableReply (record { items = []; ending = ending })
nothing ending = (no_items, lit< tt)

alone : (y : Cell) → IsItem y → IsSayableReply (gives (y ∷ []))
alone y is = (one_item y is, lit< tt)

few : (n m : ℕ) → n ≡ m → m ≤ 100000 → n < 1000000
few n m same h = omega (arith, same, h)

list_form : (o : Option ℕ) → IfSome o (λ n. n ≤ 100000) → IsSayableReply (list_reply o)
list_form None h = nothing End
list_form (Some size) h = (
  made_items (item size) (λ id. (item_object size id, item_depth size id)) 0 size,
  few (length (items size)) size (length-map-range_with_len (item size) 0 size) h,
)

owner_form : (b : Bool) (id : ℕ) → IsSayableReply (cond b throttled (gives (owner id ∷ [])))
owner_form true id = nothing (Error (codes "Throttled"))
owner_form false id = alone (owner id) (owner_object id, owner_depth id)

score_form : (b : Bool) (id : ℕ) → IsSayableReply (cond b (gives (score id ∷ [])) (gives []))
score_form true id = alone (score id) (score_object id, score_depth id)
score_form false id = nothing End

function_form : (b : Bool) (function : List ℕ) (attempt id : ℕ) → IsSayableReply (cond b (owner_reply id attempt) (cond (bytes_eq function (codes "getScore")) (gives (score id ∷ [])) (gives [])))
function_form true function attempt id = owner_form (is_throttled id attempt) id
function_form false function attempt id = score_form (bytes_eq function (codes "getScore")) id

row_form : (function : List ℕ) (attempt : ℕ) (o : Option ℕ) → IsSayableReply (row_reply function attempt o)
row_form function attempt None = nothing End
row_form function attempt (Some id) = function_form (bytes_eq function (codes "getOwner")) function attempt id

reply_form : (asked : Call) (attempt : ℕ) → IsSayableReply (call_reply asked attempt)
reply_form (call.List table conditions None) attempt = list_form (size_of conditions) (size_bound conditions)
reply_form (call.List table conditions (Some parent)) attempt = nothing End
reply_form (call.Parents table) attempt = nothing End
reply_form (call.Get table conditions) attempt = nothing End
reply_form (call.Hydrate table function x results) attempt = row_form function attempt (id_of x)

declaration_form : IsSayableDeclaration declaration
unfolding declaration serde_json_on_literals
declaration_form = (refl, lit≤ tt, refl)

pub forms : KeepsForms generated
forms = (λ key. reply_form key.call key.attempt, λ connection tick. lit< tt, λ connection. declaration_form)
