-- The keys of the access that is chosen are met by what is sent.
use Rattle.std.proofs.Common.{◌≡◌, ℕ, Bool, true, false, ◌&&◌, ◌||◌, not, List, [], ◌∷◌, ◌++◌, filter, cond, Option, Some, None, Ok, Err, if◌then◌else◌, refl, sym, ap, ◌∙◌, subst}
use Rattle.std.proofs.lemmas.Bool.{and_from}
use Rattle.std.specs.List.{list_all, list_any}
use Rattle.sp_model.proofs.PlainLists.{any_there}
use Rattle.std.proofs.lemmas.List.{append_assoc}
use Rattle.sp_model.specs.Keys.{is_on, is_sent, equals, fan_of, with_equals, with_fan, has_condition, is_required, is_any_of, is_met, is_equality, is_get_met, list_access, choose_list, choose, missing_keys}
use Rattle.sp_model.specs.Requests.{keys_of_get, keys_of_list, keys_for}
use Rattle.sp_model.specs.declared.call.Condition.{Condition}
use Rattle.sp_model.specs.declared.declaration.AccessDecl.{AccessDecl}
use Rattle.sp_model.specs.declared.declaration.GetDecl.{GetDecl}
use Rattle.sp_model.specs.declared.declaration.KeyDecl.{KeyDecl}
use Rattle.sp_model.specs.declared.declaration.ListDecl.{ListDecl}
use Rattle.sp_model.specs.declared.declaration.TableDecl.{TableDecl}
use Rattle.sp_model.specs.declared.scan.Access.{Access}
use Rattle.sp_model.specs.declared.scan.Access.TheVariants as access
use Rattle.model_laws.proofs.Merging.{left, right}

-- ---- met keys grow with what is given

or_more : (a b c : Bool) → (b ≡ true → c ≡ true) → (a || b) ≡ true → (a || c) ≡ true
or_more true b c f h = refl
or_more false b c f h = f h

and_more : (a b c : Bool) → (b ≡ true → c ≡ true) → (a && b) ≡ true → (a && c) ≡ true
and_more true b c f h = f h
and_more false b c f h = h

or_both : (a b c d : Bool) → (a ≡ true → b ≡ true) → (c ≡ true → d ≡ true) → (a || c) ≡ true → (b || d) ≡ true
or_both true b c d p q h = ap (λ t. t || d) (p refl)
or_both false true c d p q h = refl
or_both false false c d p q h = q h

-- of each key that is among all
abbrev More : List KeyDecl → (KeyDecl → Bool) → (KeyDecl → Bool) → Type 0
More all f g = (before : List KeyDecl) (key : KeyDecl) (after : List KeyDecl) → all ≡ before ++ key ∷ after → f key ≡ true → g key ≡ true

one_on : (all before : List KeyDecl) (key : KeyDecl) (after : List KeyDecl) → all ≡ before ++ key ∷ after → all ≡ (before ++ key ∷ []) ++ after
one_on all before key after e = e ∙ sym (append_assoc before (key ∷ []) after)

required_more : (f g : KeyDecl → Bool) (all before keys : List KeyDecl) → all ≡ before ++ keys → More all f g
    → list_all (λ key. not (is_required key) || f key) keys ≡ true → list_all (λ key. not (is_required key) || g key) keys ≡ true
required_more f g all before [] e m h = refl
required_more f g all before (k ∷ ks) e m h =
    and_from (not (is_required k) || g k) (list_all (λ key. not (is_required key) || g key) ks)
    (or_more (not (is_required k)) (f k) (g k) (m before k ks e) (left (not (is_required k) || f k) (list_all (λ key. not (is_required key) || f key) ks) h))
    (required_more f g all (before ++ k ∷ []) ks (one_on all before k ks e) m (right (not (is_required k) || f k) (list_all (λ key. not (is_required key) || f key) ks) h))

any_more : (f g : KeyDecl → Bool) (all before keys : List KeyDecl) → all ≡ before ++ keys → More all f g
    → list_any (λ key. is_any_of key && f key) keys ≡ true → list_any (λ key. is_any_of key && g key) keys ≡ true
any_more f g all before [] e m h = h
any_more f g all before (k ∷ ks) e m h =
    or_both (is_any_of k && f k) (is_any_of k && g k) (list_any (λ key. is_any_of key && f key) ks) (list_any (λ key. is_any_of key && g key) ks)
    (and_more (is_any_of k) (f k) (g k) (m before k ks e)) (any_more f g all (before ++ k ∷ []) ks (one_on all before k ks e) m) h

met_more : (keys : List KeyDecl) (cs ds : List Condition) → More keys (has_condition cs) (has_condition ds) → is_met keys cs ≡ true → is_met keys ds ≡ true
met_more keys cs ds m h =
    let f : KeyDecl → Bool = has_condition cs in
    let g : KeyDecl → Bool = has_condition ds in
    let required : Bool = list_all (λ key. not (is_required key) || f key) keys in
    let some : Bool = not (list_any is_any_of keys) || list_any (λ key. is_any_of key && f key) keys in
    and_from (list_all (λ key. not (is_required key) || g key) keys) (not (list_any is_any_of keys) || list_any (λ key. is_any_of key && g key) keys)
    (required_more f g keys [] keys refl m (left required some h))
    (or_more (not (list_any is_any_of keys)) (list_any (λ key. is_any_of key && f key) keys) (list_any (λ key. is_any_of key && g key) keys) (any_more f g keys [] keys refl m) (right required some h))

-- ---- what is left out

any_filter_by : {X : Type 0} (p : X → Bool) (x : X) (xs ys : List X) (b : Bool) → (list_any p ys ≡ true → list_any p xs ≡ true) → list_any p (cond b (x ∷ ys) ys) ≡ true → list_any p (x ∷ xs) ≡ true
any_filter_by p x xs ys true f h = or_more (p x) (list_any p ys) (list_any p xs) f h
any_filter_by p x xs ys false f h = or_more (p x) (list_any p ys) (list_any p xs) f (or_right (p x) (list_any p ys) h)
  where
    or_right : (a b : Bool) → b ≡ true → (a || b) ≡ true
    or_right true b k = refl
    or_right false b k = k

any_filter : {X : Type 0} (p q : X → Bool) (xs : List X) → list_any p (filter q xs) ≡ true → list_any p xs ≡ true
any_filter p q [] h = h
any_filter p q (x ∷ xs) h = any_filter_by p x xs (filter q xs) (q x) (any_filter p q xs) h

kept_by : {X : Type 0} (p : X → Bool) (x : X) (xs ys : List X) (a b : Bool) → p x ≡ a → (a ≡ true → b ≡ true) → (list_any p xs ≡ true → list_any p ys ≡ true)
    → (a || list_any p xs) ≡ true → list_any p (cond b (x ∷ ys) ys) ≡ true
kept_by p x xs ys true true e m f h = ap (λ t. t || list_any p ys) e
kept_by p x xs ys true false e m f h = absurd (let no : false ≡ true = m refl in cc)
kept_by p x xs ys false true e m f h = ap (λ t. t || list_any p ys) e ∙ f h
kept_by p x xs ys false false e m f h = f h

any_kept : {X : Type 0} (p q : X → Bool) (xs : List X) → ((x : X) → p x ≡ true → q x ≡ true) → list_any p xs ≡ true → list_any p (filter q xs) ≡ true
any_kept p q [] m h = h
any_kept p q (x ∷ xs) m h = kept_by p x xs (filter q xs) (p x) (q x) refl (m x) (any_kept p q xs m) h

with_more : (fan : Option (List ℕ)) (cs ds : List Condition) (key : KeyDecl) → (has_condition cs key ≡ true → has_condition ds key ≡ true)
    → has_condition (with_equals fan cs) key ≡ true → has_condition (with_equals fan ds) key ≡ true
with_more None cs ds key f h = f h
with_more (Some column) cs ds key f h = or_more (is_on key (equals column)) (has_condition cs key) (has_condition ds key) f h

-- those that are sent on keys meet them where all do
pub sent_meet : (keys : List KeyDecl) (fan : Option (List ℕ)) (cs : List Condition) → is_met keys (with_equals fan cs) ≡ true → is_met keys (with_equals fan (filter (is_sent keys) cs)) ≡ true
sent_meet keys fan cs h =
    met_more keys (with_equals fan cs) (with_equals fan (filter (is_sent keys) cs))
    (λ before key after e. with_more fan cs (filter (is_sent keys) cs) key
    (any_kept (is_on key) (is_sent keys) cs (λ c k. ap (λ all. list_any (λ other. is_on other c) all) e ∙ any_there (λ other. is_on other c) before key after k))) h

-- ---- the access that is chosen

abbrev Met : List KeyDecl → List (List ℕ) → List Condition → Type 0
Met keys lists cs = is_met keys (with_fan keys lists cs) ≡ true

get_case : (get : Option GetDecl) (lists : List (List ℕ)) (cs : List Condition) (keys : List KeyDecl) → is_get_met get cs lists ≡ true → keys_of_get get ≡ Some keys → Met keys lists cs
get_case None lists cs keys h e = absurd (cc)
get_case (Some d) lists cs keys h e =
    let same : d.keys ≡ keys = cc in
    subst (λ ks. Met ks lists cs) same
    (met_more d.keys (filter is_equality (with_fan d.keys lists cs)) (with_fan d.keys lists cs) (λ before key after q. any_filter (is_on key) is_equality (with_fan d.keys lists cs)) h)

list_by : (d : ListDecl) (lists : List (List ℕ)) (cs : List Condition) (keys : List KeyDecl) (b : Bool) (columns : List (List ℕ)) (chosen : Access) → is_met d.keys (with_fan d.keys lists cs) ≡ b
    → (if b then Ok (list_access d.parent) else Err columns) ≡ Ok chosen → Some d.keys ≡ Some keys → Met keys lists cs
list_by d lists cs keys true columns chosen e h k = let same : d.keys ≡ keys = cc in subst (λ ks. Met ks lists cs) same e
list_by d lists cs keys false columns chosen e h k = absurd (cc)

list_case : (list : Option ListDecl) (get : Option GetDecl) (lists : List (List ℕ)) (cs : List Condition) (keys : List KeyDecl) (chosen : Access) → choose_list list get cs lists ≡ Ok chosen → keys_of_list list ≡ Some keys → Met keys lists cs
list_case None get lists cs keys chosen h e = absurd (cc)
list_case (Some d) get lists cs keys chosen h e = list_by d lists cs keys (is_met d.keys (with_fan d.keys lists cs)) (missing_keys d.keys (with_fan d.keys lists cs)) chosen refl h e

listed_by : (d : ListDecl) (lists : List (List ℕ)) (cs : List Condition) (b : Bool) (columns : List (List ℕ)) (chosen : Access)
    → (if b then Ok (list_access d.parent) else Err columns) ≡ Ok chosen → list_access d.parent ≡ chosen
listed_by d lists cs true columns chosen h = cc
listed_by d lists cs false columns chosen h = absurd (cc)

keys_listed : (table : TableDecl) (parent : Option AccessDecl) → keys_for table (list_access parent) ≡ keys_of_list table.list
unfolding keys_for
keys_listed table None = refl
keys_listed table (Some parent) = refl

keys_chosen : (table : TableDecl) (list : Option ListDecl) (lists : List (List ℕ)) (cs : List Condition) (chosen : Access) → table.list ≡ list → choose_list list table.get cs lists ≡ Ok chosen
    → keys_for table chosen ≡ keys_of_list table.list
keys_chosen table None lists cs chosen q h = absurd (cc)
keys_chosen table (Some d) lists cs chosen q h =
    ap (keys_for table) (sym (listed_by d lists cs (is_met d.keys (with_fan d.keys lists cs)) (missing_keys d.keys (with_fan d.keys lists cs)) chosen h)) ∙ keys_listed table d.parent

chosen_by : (table : TableDecl) (lists : List (List ℕ)) (cs : List Condition) (keys : List KeyDecl) (chosen : Access) (b : Bool) → is_get_met table.get cs lists ≡ b
    → (if b then Ok access.Get else choose_list table.list table.get cs lists) ≡ Ok chosen → keys_for table chosen ≡ Some keys → Met keys lists cs
unfolding keys_for
chosen_by table lists cs keys chosen true e h k =
    let same : access.Get ≡ chosen = cc in
    get_case table.get lists cs keys e (ap (keys_for table) same ∙ k)
chosen_by table lists cs keys chosen false e h k =
    list_case table.list table.get lists cs keys chosen h (sym (keys_chosen table table.list lists cs chosen refl h) ∙ k)

pub chosen_is_met : (table : TableDecl) (lists : List (List ℕ)) (cs : List Condition) (keys : List KeyDecl) (chosen : Access) → choose table cs lists ≡ Ok chosen → keys_for table chosen ≡ Some keys → Met keys lists cs
chosen_is_met table lists cs keys chosen h k = chosen_by table lists cs keys chosen (is_get_met table.get cs lists) refl h k

-- ---- a chosen access has keys

list_has_keys : (list : Option ListDecl) (get : Option GetDecl) (lists : List (List ℕ)) (cs : List Condition) (chosen : Access) → choose_list list get cs lists ≡ Ok chosen → keys_of_list list ≡ None → ⊥
list_has_keys None get lists cs chosen h e = cc
list_has_keys (Some d) get lists cs chosen h e = cc

get_has_keys : (get : Option GetDecl) (lists : List (List ℕ)) (cs : List Condition) → is_get_met get cs lists ≡ true → keys_of_get get ≡ None → ⊥
get_has_keys None lists cs h e = cc
get_has_keys (Some d) lists cs h e = cc

has_keys_by : (table : TableDecl) (lists : List (List ℕ)) (cs : List Condition) (chosen : Access) (b : Bool) → is_get_met table.get cs lists ≡ b
    → (if b then Ok access.Get else choose_list table.list table.get cs lists) ≡ Ok chosen → keys_for table chosen ≡ None → ⊥
unfolding keys_for
has_keys_by table lists cs chosen true e h k =
    let same : access.Get ≡ chosen = cc in
    get_has_keys table.get lists cs e (ap (keys_for table) same ∙ k)
has_keys_by table lists cs chosen false e h k =
    list_has_keys table.list table.get lists cs chosen h (sym (keys_chosen table table.list lists cs chosen refl h) ∙ k)

pub chosen_has_keys : (table : TableDecl) (lists : List (List ℕ)) (cs : List Condition) (chosen : Access) → choose table cs lists ≡ Ok chosen → keys_for table chosen ≡ None → ⊥
chosen_has_keys table lists cs chosen h k = has_keys_by table lists cs chosen (is_get_met table.get cs lists) refl h k

-- ---- the fan

fan_in : (P : List ℕ → Type 0) (keys : List KeyDecl) (x : List ℕ) (xs : List (List ℕ)) (b : Bool) (column : List ℕ) → is_sent keys (equals x) ≡ b
    → (if b then Some x else fan_of keys xs) ≡ Some column → (is_sent keys (equals x) ≡ true → P x) → (fan_of keys xs ≡ Some column → P column) → P column
fan_in P keys x xs true column e h f g = let same : x ≡ column = cc in subst P same (f e)
fan_in P keys x xs false column e h f g = g h

pub fan_is_sent : (keys : List KeyDecl) (lists : List (List ℕ)) (column : List ℕ) → fan_of keys lists ≡ Some column → is_sent keys (equals column) ≡ true
fan_is_sent keys [] column h = absurd (cc)
fan_is_sent keys (x ∷ xs) column h = fan_in (λ c. is_sent keys (equals c) ≡ true) keys x xs (is_sent keys (equals x)) column refl h (λ e. e) (fan_is_sent keys xs column)

pub fan_is_listed : (p : List ℕ → Bool) (keys : List KeyDecl) (lists : List (List ℕ)) (column : List ℕ) → list_all p lists ≡ true → fan_of keys lists ≡ Some column → p column ≡ true
fan_is_listed p keys [] column a h = absurd (cc)
fan_is_listed p keys (x ∷ xs) column a h =
    fan_in (λ c. p c ≡ true) keys x xs (is_sent keys (equals x)) column refl h (λ e. left (p x) (list_all p xs) a) (fan_is_listed p keys xs column (right (p x) (list_all p xs) a))
