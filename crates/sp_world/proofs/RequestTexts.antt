-- What requests read as.
use Rattle.std.proofs.Common.{◌≡◌, ◌≤◌, ℕ, ℤ, Bool, true, false, ◌&&◌, List, [], ◌∷◌, map, take, length, Option, Some, None, option_map, refl, sym, ap, ◌∙◌, subst, arith}
use Rattle.std.proofs.lemmas.Bool.{le-leb, leb-true, and_parts}
use Rattle.std.proofs.lemmas.List.{take_all}
use Rattle.serde_json.specs.Data.{Data, null, boolean, number, string, array, object, Members, no_members, member, depth, items_depth, members_depth}
use Rattle.serde_json.specs.Find.{as_i64}
use Rattle.serde_json.specs.View.{view, items_of, items_view}
use Rattle.serde_json.specs.Written.{has_float, items_have_float}
use Rattle.serde_json.specs.declared.value.Value.{Value}
use Rattle.sp_value.specs.Json.{has_odd_number, items_odd, cell_of, cells_of, pairs_of, data_of}
use Rattle.sp_value.specs.Depth as values
use Rattle.sp_value.proofs.Computing.{cells, depth-Null}
use Rattle.sp_value.proofs.JsonLaws.{whole_of_cell, no_float_of_cell, depth_of_cell, some_list, some_object, some_member, or_false}
use Rattle.sp_value.specs.declared.cell.Cell.{Cell}
use Rattle.sp_value.specs.declared.cell.Cell as c
use Rattle.sp_value.specs.declared.cell.Cell.TheViews.{out-Cell}
use Rattle.sp_value.specs.declared.truth.Op.{Op}
use Rattle.sp_value.specs.declared.truth.Op.TheVariants.{Eq, Ne, Lt, Le, Gt, Ge}
use Rattle.sp_model.specs.Conditions.{is_scalar, is_before, is_canonical}
use Rattle.sp_model.specs.declared.call.Condition.{Condition}
use Rattle.sp_world.specs.ReplyLines.{is_shallow_object}
use Rattle.sp_world.specs.RequestLines.{operator_text, operator_of, condition_data, condition_of, condition_list, scalar_of, is_result, are_results, results_of, conditions_of, IsResultForm, IsNullOrObject_at, AreResults}

-- ---- results

shallow : (ms : Members) (x : Cell) → cell_of (object ms) ≡ Some x → values.depth x ≤ 100 → is_shallow_object (object ms) ≡ true
shallow ms x h d = let e = depth_of_cell (object ms) x h in le-leb (depth (object ms)) 100 (omega (arith, e, d))

no_number : (o : Option ℤ) (x : Cell) → option_map c.Int o ≡ Some x → IsNullOrObject_at (out-Cell x) → ⊥
unfolding cells
no_number None x h i = absurd (cc)
no_number (Some z) x h i = let e : x ≡ c.Int z = cc in subst (λ (y : Cell). IsNullOrObject_at (out-Cell y)) e i

is_result_of : (d : Data) (x : Cell) → cell_of d ≡ Some x → IsResultForm x → is_result d ≡ true
unfolding cells
is_result_of null x h i = refl
is_result_of (boolean b) x h i = let e : x ≡ c.Bool b = cc in absurd (subst (λ (y : Cell). IsNullOrObject_at (out-Cell y)) e i.0)
is_result_of (number n) x h i = absurd (no_number (as_i64 n) x h i.0)
is_result_of (string s) x h i = let e : x ≡ c.Text s = cc in absurd (subst (λ (y : Cell). IsNullOrObject_at (out-Cell y)) e i.0)
is_result_of (array ds) x h i = let r = some_list (cells_of ds) x h in absurd (subst (λ (y : Cell). IsNullOrObject_at (out-Cell y)) (sym r.2) i.0)
is_result_of (object ms) x h i = shallow ms x h i.1

are_results_of : (md : Members) (ms : List (List ℕ × Cell)) → pairs_of md ≡ Some ms → AreResults ms → are_results md ≡ true
are_results_of no_members ms h a = refl
are_results_of (member k d md) ms h a =
    let r = some_member k (cell_of d) (pairs_of md) ms h in
    let b = subst AreResults (sym r.4) a in
    rw (is_result_of d r.0 r.2 b.0, are_results_of md r.1 r.3 b.1) refl

results_nest : (md : Members) (ms : List (List ℕ × Cell)) → pairs_of md ≡ Some ms → AreResults ms → members_depth md ≤ 100
results_nest no_members ms h a = omega arith
results_nest (member k d md) ms h a =
    let r = some_member k (cell_of d) (pairs_of md) ms h in
    let b = subst AreResults (sym r.4) a in
    omega (arith, depth_of_cell d r.0 r.2, b.0.1, results_nest md r.1 r.3 b.1)

-- results that are written are read again
pub results_back : (md : Members) (ms : List (List ℕ × Cell)) → pairs_of md ≡ Some ms → AreResults ms → results_of (object md) ≡ Some ms
results_back md ms h a = rw (are_results_of md ms h a) h

pub results_depth : (md : Members) (ms : List (List ℕ × Cell)) → pairs_of md ≡ Some ms → AreResults ms → depth (object md) ≤ 101
results_depth md ms h a = omega (arith, results_nest md ms h a)

pub results_whole : (md : Members) (ms : List (List ℕ × Cell)) → pairs_of md ≡ Some ms → has_odd_number (object md) ≡ false
results_whole md ms h = whole_of_cell (object md) (c.Object ms) (ap (option_map c.Object) h)

pub results_no_float : (md : Members) (ms : List (List ℕ × Cell)) → pairs_of md ≡ Some ms → has_float (object md) ≡ false
results_no_float md ms h = no_float_of_cell (object md) (c.Object ms) (ap (option_map c.Object) h)

-- ---- conditions

-- each value's JSON reads as the value
abbrev pub ReadBack : List Condition → Type 0
ReadBack cs = map (λ k. cell_of (data_of k.value)) cs ≡ map (λ k. Some k.value) cs

operator_back : (o : Op) → operator_of (operator_text o) ≡ Some o
operator_back Eq = refl
operator_back Ne = refl
operator_back Lt = refl
operator_back Le = refl
operator_back Gt = refl
operator_back Ge = refl

no_scalar : (x y : Cell) → x ≡ y → is_scalar x ≡ false → is_scalar y ≡ true → ⊥
no_scalar x y e f t = cc

scalar_back : (d : Data) (x : Cell) → cell_of d ≡ Some x → is_scalar x ≡ true → scalar_of d ≡ Some x
unfolding cells
scalar_back null x h s = let e : c.Null ≡ x = cc in absurd (no_scalar c.Null x e refl s)
scalar_back (boolean b) x h s = h
scalar_back (number n) x h s = h
scalar_back (string t) x h s = h
scalar_back (array ds) x h s = let r = some_list (cells_of ds) x h in absurd (no_scalar (c.List r.0) x r.2 refl s)
scalar_back (object ms) x h s = let r = some_object (pairs_of ms) x h in absurd (no_scalar (c.Object r.0) x r.2 refl s)

scalar_depth : (d : Data) (x : Cell) → cell_of d ≡ Some x → is_scalar x ≡ true → depth d ≡ 0
unfolding cells
scalar_depth null x h s = refl
scalar_depth (boolean b) x h s = refl
scalar_depth (number n) x h s = refl
scalar_depth (string t) x h s = refl
scalar_depth (array ds) x h s = let r = some_list (cells_of ds) x h in absurd (no_scalar (c.List r.0) x r.2 refl s)
scalar_depth (object ms) x h s = let r = some_object (pairs_of ms) x h in absurd (no_scalar (c.Object r.0) x r.2 refl s)

condition_back : (k : Condition) → cell_of (data_of k.value) ≡ Some k.value → is_scalar k.value ≡ true → condition_of (condition_data k) ≡ Some k
condition_back k h s = rw (operator_back k.operator, scalar_back (data_of k.value) k.value h s) refl

condition_no_float : (k : Condition) → cell_of (data_of k.value) ≡ Some k.value → has_float (condition_data k) ≡ false
condition_no_float k h = rw (no_float_of_cell (data_of k.value) k.value h) refl

condition_whole : (k : Condition) → cell_of (data_of k.value) ≡ Some k.value → has_odd_number (condition_data k) ≡ false
condition_whole k h = rw (whole_of_cell (data_of k.value) k.value h) refl

condition_depth : (k : Condition) → cell_of (data_of k.value) ≡ Some k.value → is_scalar k.value ≡ true → depth (condition_data k) ≤ 1
condition_depth k h s = omega (arith, scalar_depth (data_of k.value) k.value h s)

and_first : (a b d : Bool) → (a && b && d) ≡ true → a ≡ true
and_first true b d h = refl
and_first false b d h = cc

and_last : (a b d : Bool) → (a && b && d) ≡ true → d ≡ true
and_last true true d h = h
and_last true false d h = cc
and_last false b d h = cc

first_scalar : (k : Condition) (ks : List Condition) → is_canonical (k ∷ ks) ≡ true → is_scalar k.value ≡ true
first_scalar k [] h = h
first_scalar k (m ∷ more) h = and_first (is_scalar k.value) (is_before k m) (is_canonical (m ∷ more)) h

rest_canonical : (k : Condition) (ks : List Condition) → is_canonical (k ∷ ks) ≡ true → is_canonical ks ≡ true
rest_canonical k [] h = refl
rest_canonical k (m ∷ more) h = and_last (is_scalar k.value) (is_before k m) (is_canonical (m ∷ more)) h

list_back : (ks : List Condition) → ReadBack ks → is_canonical ks ≡ true → condition_list (items_of (map condition_data ks)) ≡ Some ks
list_back [] h s = refl
list_back (k ∷ ks) h s =
    let here : cell_of (data_of k.value) ≡ Some k.value = cc in
    let later : map {A = Condition} (λ m. cell_of (data_of m.value)) ks ≡ map {A = Condition} (λ m. Some m.value) ks = cc in
    rw (condition_back k here (first_scalar k ks s), list_back ks later (rest_canonical k ks s)) refl

list_no_float : (ks : List Condition) → ReadBack ks → items_have_float (items_of (map condition_data ks)) ≡ false
list_no_float [] h = refl
list_no_float (k ∷ ks) h =
    let here : cell_of (data_of k.value) ≡ Some k.value = cc in
    let later : map {A = Condition} (λ m. cell_of (data_of m.value)) ks ≡ map {A = Condition} (λ m. Some m.value) ks = cc in
    or_false _ _ (condition_no_float k here) (list_no_float ks later)

list_whole : (ks : List Condition) → ReadBack ks → items_odd (items_of (map condition_data ks)) ≡ false
list_whole [] h = refl
list_whole (k ∷ ks) h =
    let here : cell_of (data_of k.value) ≡ Some k.value = cc in
    let later : map {A = Condition} (λ m. cell_of (data_of m.value)) ks ≡ map {A = Condition} (λ m. Some m.value) ks = cc in
    or_false _ _ (condition_whole k here) (list_whole ks later)

list_depth : (ks : List Condition) → ReadBack ks → is_canonical ks ≡ true → items_depth (items_of (map condition_data ks)) ≤ 1
list_depth [] h s = omega arith
list_depth (k ∷ ks) h s =
    let here : cell_of (data_of k.value) ≡ Some k.value = cc in
    let later : map {A = Condition} (λ m. cell_of (data_of m.value)) ks ≡ map {A = Condition} (λ m. Some m.value) ks = cc in
    omega (arith, condition_depth k here (first_scalar k ks s), list_depth ks later (rest_canonical k ks s))

-- what a loop that wrote all conditions made of them
pub record Written (vs : List Value) (ks : List Condition) : Type 0 where
  pub same : items_view vs ≡ items_of (map condition_data ks)
  pub back : ReadBack ks

pub all_written : (vs : List Value) (ks : List Condition) (i : ℕ) → length ks ≤ i → map view vs ≡ map condition_data (take i ks)
    → ReadBack (take i ks) → Written vs ks
all_written vs ks i h same back =
    let e : take i ks ≡ ks = take_all i ks h in
    record { same = ap items_of same ∙ ap (λ l. items_of (map condition_data l)) e; back = subst ReadBack e back }

pub conditions_back : (vs : List Value) (ks : List Condition) → Written vs ks → is_canonical ks ≡ true → conditions_of (array (items_view vs)) ≡ Some ks
conditions_back vs ks w s = rw (w.same, list_back ks w.back s, s) refl

pub conditions_no_float : (vs : List Value) (ks : List Condition) → Written vs ks → has_float (array (items_view vs)) ≡ false
conditions_no_float vs ks w = rw w.same (list_no_float ks w.back)

pub conditions_whole : (vs : List Value) (ks : List Condition) → Written vs ks → has_odd_number (array (items_view vs)) ≡ false
conditions_whole vs ks w = rw w.same (list_whole ks w.back)

pub conditions_depth : (vs : List Value) (ks : List Condition) → Written vs ks → is_canonical ks ≡ true → depth (array (items_view vs)) ≤ 2
conditions_depth vs ks w s = omega (arith, list_depth ks w.back s, ap items_depth w.same)

-- ---- what is read has the form

result_form : (d : Data) (x : Cell) → cell_of d ≡ Some x → is_result d ≡ true → IsResultForm x
unfolding cells
result_form null x h r = let e : c.Null ≡ x = cc in subst IsResultForm e (tt, omega (arith, depth-Null))
result_form (boolean b) x h r = absurd (cc)
result_form (number n) x h r = absurd (cc)
result_form (string s) x h r = absurd (cc)
result_form (array ds) x h r = absurd (cc)
result_form (object ms) x h r =
    let o = some_object (pairs_of ms) x h in
    (subst (λ (y : Cell). IsNullOrObject_at (out-Cell y)) o.2 tt, omega (arith, depth_of_cell (object ms) x h, leb-true (depth (object ms)) 100 r))

pub results_form : (md : Members) (ms : List (List ℕ × Cell)) → pairs_of md ≡ Some ms → are_results md ≡ true → AreResults ms
results_form no_members ms h r = let e : [] ≡ ms = cc in subst AreResults e tt
results_form (member k d md) ms h r =
    let s = some_member k (cell_of d) (pairs_of md) ms h in
    let b = and_parts (is_result d) (are_results md) r in
    subst AreResults s.4 (result_form d s.0 s.2 b.0, results_form md s.1 s.3 b.1)
