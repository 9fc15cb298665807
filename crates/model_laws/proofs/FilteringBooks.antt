-- A book that leaves out items keeps what subset keys promise.
use Rattle.std.proofs.Common.{◌≡◌, Bool, true, false, ◌&&◌, cond, List, [], ◌∷◌, filter, is_some, refl, sym, ap, ◌∙◌}
use Rattle.std.specs.List.{list_all}
use Rattle.std.specs.Ordering.{match_ordering}
use Rattle.std.specs.declared.cmp.Ordering.{Ordering}
use Rattle.std.specs.declared.cmp.Ordering.TheVariants.{Less, Equal, Greater}
use Rattle.sp_value.specs.declared.cell.Cell.{Cell}
use Rattle.sp_model.specs.Calls.{fit_keys, same_presence}
use Rattle.sp_model.specs.Conditions.{is_scalar, condition_cmp, is_canonical}
use Rattle.sp_model.specs.Keys.{is_sent, is_met, put_condition}
use Rattle.sp_model.specs.SubsetKeys.{holds_of, is_on_subset_key}
use Rattle.sp_model.specs.declared.call.Condition.{Condition}
use Rattle.sp_model.specs.declared.call.Ending.{Ending}
use Rattle.sp_model.specs.declared.call.Reply.{Reply}
use Rattle.model_laws.proofs.Filtering.{filter_filter}
use Rattle.model_laws.proofs.Merging.{left, right, is_scalar_condition, Scalars, all_scalar}
use Rattle.model_laws.proofs.Orders.{Scalar, same_exact}
use Rattle.model_laws.specs.FilteringBooks.{hold_of, FilteringBookKeepsSubsetKeys}

twice : (a b : Bool) → (a && b) ≡ (a && (a && b))
twice true b = refl
twice false b = refl

swap : (a b c : Bool) → (a && (b && c)) ≡ (b && (a && c))
swap true true c = refl
swap true false c = refl
swap false true c = refl
swap false false c = refl

all_put_is_by : (p : Condition → Bool) (c d : Condition) (ds rest : List Condition) (o : Ordering) → (o ≡ Equal → c ≡ d) → list_all p rest ≡ (p c && list_all p ds)
    → list_all p (match_ordering o (c ∷ d ∷ ds) (d ∷ ds) (d ∷ rest)) ≡ (p c && list_all p (d ∷ ds))
all_put_is_by p c d ds rest Less same later = refl
all_put_is_by p c d ds rest Equal same later = twice (p d) (list_all p ds) ∙ ap (λ b. b && (p d && list_all p ds)) (sym (ap p (same refl)))
all_put_is_by p c d ds rest Greater same later = ap (λ b. p d && b) later ∙ swap (p d) (p c) (list_all p ds)

same_from : (c d : Condition) → Scalar c → Scalar d → condition_cmp c d ≡ Equal → c ≡ d
same_from c d sc sd e = same_exact c d sc sd (ap (λ o. match_ordering o false true false) e)

-- a condition put among others, whether it stands there already or not
all_put_is : (p : Condition → Bool) (c : Condition) (ds : List Condition) → Scalar c → Scalars ds → list_all p (put_condition c ds) ≡ (p c && list_all p ds)
all_put_is p c [] sc s = refl
all_put_is p c (d ∷ ds) sc s =
    all_put_is_by p c d ds (put_condition c ds) (condition_cmp c d) (same_from c d sc (left (is_scalar_condition d) (list_all is_scalar_condition ds) s))
    (all_put_is p c ds sc (right (is_scalar_condition d) (list_all is_scalar_condition ds) s))

filter_same : {X : Type 0} (p q : X → Bool) → ((x : X) → p x ≡ q x) → (xs : List X) → filter p xs ≡ filter q xs
filter_same p q f [] = refl
filter_same p q f (x ∷ xs) = ap (λ b. cond b (x ∷ filter p xs) (filter p xs)) (f x) ∙ ap (λ ys. cond (q x) (x ∷ ys) ys) (filter_same p q f xs)

pub keeps_promise : FilteringBookKeepsSubsetKeys
keeps_promise book connection table d filters version attempt parent conditions further call on =
    let fit : fit_keys d.keys conditions ≡ true = left (fit_keys d.keys conditions) (same_presence (is_some parent) (is_some d.parent)) call in
    let canonical : is_canonical conditions ≡ true =
    left (is_canonical conditions) (list_all (is_sent d.keys) conditions) (left (is_canonical conditions && list_all (is_sent d.keys) conditions) (is_met d.keys conditions) fit) in
    let scalar : Scalar further = left (is_scalar further.value) (is_on_subset_key d.keys further) on in
    let all : List Cell = filters.items version attempt parent in
    let end : Ending = filters.ending version attempt parent in
    let reply_with : List Cell → Reply = λ items. record { items = items; ending = end } in
    let filtered : Reply → Reply = λ r. record { items = filter (holds_of table.columns further) r.items; ending = r.ending } in
    filters.replies version attempt parent (put_condition further conditions)
    ∙ ap reply_with
    (filter_same (hold_of table.columns (put_condition further conditions)) (λ item. holds_of table.columns further item && hold_of table.columns conditions item)
    (λ item. all_put_is (λ condition. holds_of table.columns condition item) further conditions scalar (all_scalar conditions canonical)) all
    ∙ sym (filter_filter (holds_of table.columns further) (hold_of table.columns conditions) all))
    ∙ ap filtered (sym (filters.replies version attempt parent conditions))
