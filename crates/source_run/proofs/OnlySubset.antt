-- The subset columns of a sound table's list only filter.
use Rattle.std.proofs.Common.{◌≡◌, ℕ, Bool, true, false, ◌&&◌, ◌||◌, not, List, [], ◌∷◌, map, filter, Option, Some, None, refl, sym, ap, subst, ◌∙◌}
use Rattle.std.specs.Prelude.{bytes_eq, is_some, is_none}
use Rattle.std.specs.List.{list_all, list_any}
use Rattle.std.specs.Option.{option_map_or}
use Rattle.std.proofs.lemmas.Slice.Eq.{bytes_eq-Decides}
use Rattle.sp_model.specs.Keys.{columns_of_keys}
use Rattle.sp_model.specs.Names.{has_name, are_distinct}
use Rattle.sp_model.specs.Requests.{subset_for, subset_of_list, subset_names}
use Rattle.sp_model.specs.RowOf.{names_of_columns}
use Rattle.sp_model.specs.SubsetKeys.{is_subset}
use Rattle.sp_model.specs.declared.declaration.ColumnDecl.{ColumnDecl}
use Rattle.sp_model.specs.declared.declaration.KeyDecl.{KeyDecl}
use Rattle.sp_model.specs.declared.declaration.ListDecl.{ListDecl}
use Rattle.sp_model.specs.declared.declaration.TableDecl.{TableDecl}
use Rattle.sp_model.specs.declared.scan.Access.{Access}
use Rattle.sp_model.specs.declared.scan.Access.TheVariants as access
use Rattle.decl_words.proofs.Names.{distinct}
use Rattle.decl_words.specs.Columns.{hydrated}
use Rattle.decl_words.specs.Refusals.{repeats, list_repeats, is_subset_key}
use Rattle.decl_words.specs.Sound.{IsSound}
use Rattle.model_laws.proofs.Filtering.{all_from}
use Rattle.model_laws.specs.Covered.{only_filters}
use Rattle.scan_run.specs.Asked.{AllOnlyFilter}

no_left : (a b : Bool) → (a || b) ≡ false → a ≡ false
no_left false b h = refl
no_left true b h = absurd (cc)

no_right : (a b : Bool) → (a || b) ≡ false → b ≡ false
no_right false b h = h
no_right true b h = absurd (cc)

not_true : (a : Bool) → a ≡ false → not a ≡ true
not_true false h = refl
not_true true h = absurd (cc)

is_not : (a : Bool) → not a ≡ true → a ≡ false
is_not false h = refl
is_not true h = absurd (cc)

both : (a b : Bool) → a ≡ true → b ≡ true → (a && b) ≡ true
both true b h k = k
both false b h k = absurd (cc)

left : (a b : Bool) → (a && b) ≡ true → a ≡ true
left true b h = refl
left false b h = absurd (cc)

right : (a b : Bool) → (a && b) ≡ true → b ≡ true
right true b h = h
right false b h = absurd (cc)

or_here : (a b : Bool) → a ≡ true → (a || b) ≡ true
or_here true b h = refl
or_here false b h = absurd (cc)

or_there : (a b : Bool) → b ≡ true → (a || b) ≡ true
or_there true b h = refl
or_there false b h = h

filter_yes : {X : Type 0} (p : X → Bool) (x : X) (xs : List X) → p x ≡ true → filter p (x ∷ xs) ≡ x ∷ filter p xs
filter_yes p x xs e = rw e refl

filter_no : {X : Type 0} (p : X → Bool) (x : X) (xs : List X) → p x ≡ false → filter p (x ∷ xs) ≡ filter p xs
filter_no p x xs e = rw e refl

same_turned : (a b : List ℕ) → bytes_eq a b ≡ true → bytes_eq b a ≡ true
same_turned a b e =
    let p : a ≡ b = (bytes_eq-Decides a b).0 e in
    subst (λ (x : List ℕ). bytes_eq b x ≡ true) (sym p) (subst (λ (x : List ℕ). bytes_eq x b ≡ true) p e)

other_turned : (a b : List ℕ) (turned : Bool) → bytes_eq b a ≡ turned → bytes_eq a b ≡ false → bytes_eq b a ≡ false
other_turned a b false e h = e
other_turned a b true e h = let same : bytes_eq a b ≡ true = same_turned b a e in absurd (cc)

-- ---- keys

abbrev key_only : List ℕ → KeyDecl → Bool
key_only name key = not (bytes_eq key.column name) || is_subset key.matching

none_of : (keys : List KeyDecl) (name : List ℕ) → has_name (columns_of_keys keys) name ≡ false → list_all (key_only name) keys ≡ true
none_of [] name h = refl
none_of (k ∷ ks) name h =
    both _ _ (or_here _ _ (not_true _ (other_turned name k.column _ refl (no_left _ _ h)))) (none_of ks name (no_right _ _ h))

others : (name : List ℕ) (names : List (List ℕ)) → has_name names name ≡ false → list_all (λ other. not (bytes_eq name other)) names ≡ true
others name [] h = refl
others name (n ∷ ns) h = both _ _ (not_true _ (no_left _ _ h)) (others name ns (no_right _ _ h))

of_subset : (p : List ℕ → Bool) (keys : List KeyDecl) → list_all p (columns_of_keys keys) ≡ true → list_all p (subset_names keys) ≡ true
of_subset p [] h = refl
of_subset p (k ∷ ks) h = one (of_subset p ks (right _ _ h)) (is_subset k.matching) refl
  where
    one : list_all p (subset_names ks) ≡ true → (b : Bool) → is_subset k.matching ≡ b → list_all p (subset_names (k ∷ ks)) ≡ true
    one later true e = ap (λ (xs : List KeyDecl). list_all p (map (λ key. key.column) xs)) (filter_yes (λ key. is_subset key.matching) k ks e) ∙ both _ _ (left _ _ h) later
    one later false e = ap (λ (xs : List KeyDecl). list_all p (map (λ key. key.column) xs)) (filter_no (λ key. is_subset key.matching) k ks e) ∙ later

-- a subset name is that of no key but a subset key
keys_only : (keys : List KeyDecl) → are_distinct (columns_of_keys keys) ≡ true → list_all (λ name. list_all (key_only name) keys) (subset_names keys) ≡ true
keys_only [] h = refl
keys_only (k ∷ ks) h = one (keys_only ks (right _ _ h)) (is_subset k.matching) refl
  where
    fresh : has_name (columns_of_keys ks) k.column ≡ false
    fresh = is_not _ (left _ _ h)

    rest : list_all (λ name. list_all (key_only name) ks) (subset_names ks) ≡ true → list_all (λ name. key_only name k && list_all (key_only name) ks) (subset_names ks) ≡ true
    rest later = all_from (λ name. not (bytes_eq k.column name)) (λ name. list_all (key_only name) ks) (λ name. key_only name k && list_all (key_only name) ks)
        (λ name a b. both _ _ (or_here _ _ a) b) (subset_names ks) (of_subset (λ name. not (bytes_eq k.column name)) ks (others k.column (columns_of_keys ks) fresh)) later

    one : list_all (λ name. list_all (key_only name) ks) (subset_names ks) ≡ true → (b : Bool) → is_subset k.matching ≡ b → list_all (λ name. list_all (key_only name) (k ∷ ks)) (subset_names (k ∷ ks)) ≡ true
    one later true e = ap (λ (xs : List KeyDecl). list_all (λ name. list_all (key_only name) (k ∷ ks)) (map (λ key. key.column) xs)) (filter_yes (λ key. is_subset key.matching) k ks e)
        ∙ both _ _ (both _ _ (or_there _ _ e) (none_of ks k.column fresh)) (rest later)
    one later false e = ap (λ (xs : List KeyDecl). list_all (λ name. list_all (key_only name) (k ∷ ks)) (map (λ key. key.column) xs)) (filter_no (λ key. is_subset key.matching) k ks e) ∙ rest later

-- ---- columns

abbrev column_only : List ℕ → ColumnDecl → Bool
column_only name column = not (bytes_eq column.name name) || is_none column.function

no_function : {X : Type 0} (o : Option X) → is_some o ≡ false → is_none o ≡ true
no_function None h = refl
no_function (Some x) h = absurd (cc)

fields_only : (columns : List ColumnDecl) (name : List ℕ) → has_name (hydrated columns) name ≡ false → list_all (column_only name) columns ≡ true
fields_only [] name h = refl
fields_only (c ∷ cs) name h = one (λ k. fields_only cs name k) (is_some c.function) refl
  where
    one : (has_name (hydrated cs) name ≡ false → list_all (column_only name) cs ≡ true) → (b : Bool) → is_some c.function ≡ b → list_all (column_only name) (c ∷ cs) ≡ true
    one later true e =
        let named : has_name (c.name ∷ hydrated cs) name ≡ false = sym (ap (λ (xs : List ColumnDecl). has_name (names_of_columns xs) name) (filter_yes (λ (x : ColumnDecl). is_some x.function) c cs e)) ∙ h in
        both _ _ (or_here _ _ (not_true _ (other_turned name c.name _ refl (no_left _ _ named)))) (later (no_right _ _ named))
    one later false e =
        let named : has_name (hydrated cs) name ≡ false = sym (ap (λ (xs : List ColumnDecl). has_name (names_of_columns xs) name) (filter_no (λ (x : ColumnDecl). is_some x.function) c cs e)) ∙ h in
        both _ _ (or_there _ _ (no_function c.function e)) (later named)

no_both : (a b : Bool) → (a && b) ≡ false → a ≡ true → b ≡ false
no_both true b h e = h
no_both false b h e = absurd (cc)

on_fields : (names : List (List ℕ)) (keys : List KeyDecl) → list_any (is_subset_key names) keys ≡ false → list_all (λ name. not (has_name names name)) (subset_names keys) ≡ true
on_fields names [] h = refl
on_fields names (k ∷ ks) h = one (on_fields names ks (no_right _ _ h)) (is_subset k.matching) refl
  where
    one : list_all (λ name. not (has_name names name)) (subset_names ks) ≡ true → (b : Bool) → is_subset k.matching ≡ b → list_all (λ name. not (has_name names name)) (subset_names (k ∷ ks)) ≡ true
    one later true e = ap (λ (xs : List KeyDecl). list_all (λ name. not (has_name names name)) (map (λ key. key.column) xs)) (filter_yes (λ key. is_subset key.matching) k ks e)
        ∙ both _ _ (not_true _ (no_both _ _ (no_left _ _ h) e)) later
    one later false e = ap (λ (xs : List KeyDecl). list_all (λ name. not (has_name names name)) (map (λ key. key.column) xs)) (filter_no (λ key. is_subset key.matching) k ks e) ∙ later

-- ---- tables

list_only : (t : TableDecl) → IsSound t → (d : ListDecl) → t.list ≡ Some d → list_all (only_filters t d) (subset_names d.keys) ≡ true
list_only t sound d e =
    let repeat : repeats [] (columns_of_keys d.keys) ≡ false = subst (λ (l : Option ListDecl). list_repeats l ≡ false) e (no_right _ _ (no_left _ _ sound.names)) in
    let field : list_any (is_subset_key (hydrated t.columns)) d.keys ≡ false =
    subst (λ (l : Option ListDecl). option_map_or (λ (x : ListDecl). list_any (is_subset_key (hydrated t.columns)) x.keys) l false ≡ false) e sound.subset in
    all_from (λ name. list_all (key_only name) d.keys) (λ name. not (has_name (hydrated t.columns) name)) (only_filters t d)
    (λ name a b. both _ _ a (fields_only t.columns name (is_not _ b))) (subset_names d.keys) (keys_only d.keys (distinct [] (columns_of_keys d.keys) repeat)) (on_fields (hydrated t.columns) d.keys field)

of_list : (t : TableDecl) → IsSound t → (list : Option ListDecl) → t.list ≡ list → AllOnlyFilter t (subset_of_list list) list
of_list t sound None e = tt
of_list t sound (Some d) e = list_only t sound d e

no_names : (t : TableDecl) (list : Option ListDecl) → AllOnlyFilter t [] list
no_names t None = tt
no_names t (Some d) = refl

-- the subset columns of an access of a sound table only filter
pub subset_only : (t : TableDecl) → IsSound t → (a : Access) → AllOnlyFilter t (subset_for t a) t.list
unfolding subset_for
subset_only t sound access.Get = no_names t t.list
subset_only t sound access.List = of_list t sound t.list refl
subset_only t sound access.Parents = of_list t sound t.list refl
