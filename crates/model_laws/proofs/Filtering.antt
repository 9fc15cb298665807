-- Replies to list calls with further conditions on keys that only filter.
use Rattle.std.proofs.Common.{◌≡◌, ℕ, Bool, true, false, ◌&&◌, ◌||◌, not, cond, List, [], ◌∷◌, filter, Option, is_some, bytes_eq, refl, sym, ap, subst, ◌∙◌}
use Rattle.std.proofs.lemmas.Bool.{and_from, false≢true, or_right}
use Rattle.std.specs.List.{list_all, list_any}
use Rattle.std.specs.Ordering.{match_ordering}
use Rattle.std.specs.declared.cmp.Ordering.{Ordering}
use Rattle.std.specs.declared.cmp.Ordering.TheVariants.{Less, Equal, Greater}
use Rattle.sp_value.specs.declared.cell.Cell.{Cell}
use Rattle.sp_model.specs.Book.{Book}
use Rattle.sp_model.specs.Calls.{fit_keys, same_presence}
use Rattle.sp_model.specs.Conditions.{is_scalar, condition_cmp, is_canonical}
use Rattle.sp_model.specs.Keys.{same_operator, is_on, is_sent, put_condition, is_required, is_any_of, has_condition, is_met}
use Rattle.sp_model.specs.RowOf.{has_name}
use Rattle.sp_model.specs.SubsetKeys.{is_subset, is_on_subset_key, holds_of, list_key, is_list_call, is_further, SubsetKeysOnlyFilter}
use Rattle.sp_model.specs.declared.call.Condition.{Condition}
use Rattle.sp_model.specs.declared.call.Reply.{Reply}
use Rattle.sp_model.specs.declared.declaration.ColumnDecl.{ColumnDecl}
use Rattle.sp_model.specs.declared.declaration.KeyDecl.{KeyDecl}
use Rattle.sp_model.specs.declared.declaration.ListDecl.{ListDecl}
use Rattle.sp_model.specs.declared.declaration.TableDecl.{TableDecl}
use Rattle.model_laws.specs.FilteringBooks.{hold_of}
use Rattle.model_laws.proofs.FewerColumns.{bytes_same}
use Rattle.model_laws.proofs.Merging.{left, right, is_scalar_condition, Scalars, Canonical, all_put, put_canonical, put_all}

pub filter_all : {X : Type 0} (xs : List X) → filter (λ (x : X). true) xs ≡ xs
filter_all [] = refl
filter_all (x ∷ xs) = ap (λ l. x ∷ l) (filter_all xs)

filter_by : {X : Type 0} (p : X → Bool) (x : X) (ys zs : List X) (b : Bool) → filter p ys ≡ zs → filter p (cond b (x ∷ ys) ys) ≡ cond (p x && b) (x ∷ zs) zs
filter_by p x ys zs true h = elim (p x) as (λ c. cond c (x ∷ filter p ys) (filter p ys) ≡ cond (c && true) (x ∷ zs) zs) [ true ↦ ap (λ l. x ∷ l) h | false ↦ h ]
filter_by p x ys zs false h = elim (p x) as (λ c. filter p ys ≡ cond (c && false) (x ∷ zs) zs) [ true ↦ h | false ↦ h ]

pub filter_filter : {X : Type 0} (p q : X → Bool) (xs : List X) → filter p (filter q xs) ≡ filter (λ x. p x && q x) xs
filter_filter p q [] = refl
filter_filter p q (x ∷ xs) = filter_by p x (filter q xs) (filter (λ y. p y && q y) xs) (q x) (filter_filter p q xs)

-- what follows from two tests of each
pub all_from : {X : Type 0} (p q r : X → Bool) → ((x : X) → p x ≡ true → q x ≡ true → r x ≡ true) → (xs : List X) → list_all p xs ≡ true → list_all q xs ≡ true → list_all r xs ≡ true
all_from p q r f [] h k = refl
all_from p q r f (x ∷ xs) h k =
    and_from (r x) (list_all r xs) (f x (left (p x) (list_all p xs) h) (left (q x) (list_all q xs) k)) (all_from p q r f xs (right (p x) (list_all p xs) h) (right (q x) (list_all q xs) k))

name_all_by : (p : List ℕ → Bool) (n : List ℕ) (ns : List (List ℕ)) (name : List ℕ) (b : Bool) → bytes_eq name n ≡ b → p n ≡ true → (b || has_name ns name) ≡ true → (has_name ns name ≡ true → p name ≡ true) → p name ≡ true
name_all_by p n ns name true e h m later = subst (λ x. p x ≡ true) (sym (bytes_same name n e)) h
name_all_by p n ns name false e h m later = later m

pub name_all : (p : List ℕ → Bool) (ns : List (List ℕ)) (name : List ℕ) → list_all p ns ≡ true → has_name ns name ≡ true → p name ≡ true
name_all p [] name h m = absurd (false≢true m)
name_all p (n ∷ ns) name h m = name_all_by p n ns name (bytes_eq name n) refl (left (p n) (list_all p ns) h) m (name_all p ns name (right (p n) (list_all p ns) h))

-- ---- keys

abbrev pub only_subset : List ℕ → KeyDecl → Bool
only_subset name key = not (bytes_eq key.column name) || is_subset key.matching

on_by : (key : KeyDecl) (condition : Condition) (a b : Bool) (rest more : Bool) → (not a || is_subset key.matching) ≡ true → ((a && b) || rest) ≡ true → (rest ≡ true → more ≡ true)
    → ((is_subset key.matching && (a && b)) || more) ≡ true
on_by key condition true true rest more h k later = ap (λ c. (c && true) || more) h
on_by key condition true false rest more h k later = or_right (is_subset key.matching && false) more (later k)
on_by key condition false b rest more h k later = or_right (is_subset key.matching && false) more (later k)

pub sent_on_subset : (keys : List KeyDecl) (condition : Condition) → list_all (only_subset condition.column) keys ≡ true → is_sent keys condition ≡ true → is_on_subset_key keys condition ≡ true
sent_on_subset [] condition h k = absurd (false≢true k)
sent_on_subset (key ∷ keys) condition h k =
    on_by key condition (bytes_eq key.column condition.column) (list_any (λ op. same_operator condition.operator op) key.operators) (is_sent keys condition) (is_on_subset_key keys condition)
    (left (only_subset condition.column key) (list_all (only_subset condition.column) keys) h) k
    (sent_on_subset keys condition (right (only_subset condition.column key) (list_all (only_subset condition.column) keys) h))

-- ---- replies

put_all_canonical : (fs ks : List Condition) → Scalars fs → Canonical ks → Canonical (put_all fs ks)
put_all_canonical [] ks s h = h
put_all_canonical (f ∷ fs) ks s h =
    put_canonical f (put_all fs ks) (left (is_scalar_condition f) (list_all is_scalar_condition fs) s) (put_all_canonical fs ks (right (is_scalar_condition f) (list_all is_scalar_condition fs) s) h)

put_all_all : (p : Condition → Bool) (fs ks : List Condition) → list_all p fs ≡ true → list_all p ks ≡ true → list_all p (put_all fs ks) ≡ true
put_all_all p [] ks h k = k
put_all_all p (f ∷ fs) ks h k = all_put p f (put_all fs ks) (left (p f) (list_all p fs) h) (put_all_all p fs ks (right (p f) (list_all p fs) h) k)

-- ---- keys stay met

or_weaker : (a b c : Bool) → (b ≡ true → c ≡ true) → (a || b) ≡ true → (a || c) ≡ true
or_weaker true b c f h = refl
or_weaker false b c f h = f h

any_put_by : (p : Condition → Bool) (c d : Condition) (ds rest : List Condition) (o : Ordering) → list_any p (d ∷ ds) ≡ true → (list_any p ds ≡ true → list_any p rest ≡ true)
    → list_any p (match_ordering o (c ∷ d ∷ ds) (d ∷ ds) (d ∷ rest)) ≡ true
any_put_by p c d ds rest Less h later = or_right (p c) (list_any p (d ∷ ds)) h
any_put_by p c d ds rest Equal h later = h
any_put_by p c d ds rest Greater h later = or_weaker (p d) (list_any p ds) (list_any p rest) later h

any_put : (p : Condition → Bool) (c : Condition) (ds : List Condition) → list_any p ds ≡ true → list_any p (put_condition c ds) ≡ true
any_put p c [] h = absurd (false≢true h)
any_put p c (d ∷ ds) h = any_put_by p c d ds (put_condition c ds) (condition_cmp c d) h (any_put p c ds)

pub all_weaker : {X : Type 0} (p q : X → Bool) → ((x : X) → p x ≡ true → q x ≡ true) → (xs : List X) → list_all p xs ≡ true → list_all q xs ≡ true
all_weaker p q f [] h = refl
all_weaker p q f (x ∷ xs) h = and_from (q x) (list_all q xs) (f x (left (p x) (list_all p xs) h)) (all_weaker p q f xs (right (p x) (list_all p xs) h))

any_here : (a b c d : Bool) → (a ≡ true → c ≡ true) → (b ≡ true → d ≡ true) → (a || b) ≡ true → (c || d) ≡ true
any_here true b c d f g h = ap (λ e. e || d) (f refl)
any_here false b c d f g h = or_right c d (g h)

any_weaker : {X : Type 0} (p q : X → Bool) → ((x : X) → p x ≡ true → q x ≡ true) → (xs : List X) → list_any p xs ≡ true → list_any q xs ≡ true
any_weaker p q f [] h = absurd (false≢true h)
any_weaker p q f (x ∷ xs) h = any_here (p x) (list_any p xs) (q x) (list_any q xs) (f x) (any_weaker p q f xs) h

abbrev meets_required : List Condition → KeyDecl → Bool
meets_required conditions key = not (is_required key) || has_condition conditions key

abbrev meets_any : List Condition → KeyDecl → Bool
meets_any conditions key = is_any_of key && has_condition conditions key

abbrev meets_some : List KeyDecl → List Condition → Bool
meets_some keys conditions = not (list_any is_any_of keys) || list_any (meets_any conditions) keys

met_put : (keys : List KeyDecl) (c : Condition) (ks : List Condition) → is_met keys ks ≡ true → is_met keys (put_condition c ks) ≡ true
met_put keys c ks h =
    and_from (list_all (meets_required (put_condition c ks)) keys) (meets_some keys (put_condition c ks))
    (all_weaker (meets_required ks) (meets_required (put_condition c ks))
    (λ key. or_weaker (not (is_required key)) (has_condition ks key) (has_condition (put_condition c ks) key) (any_put (is_on key) c ks)) keys
    (left (list_all (meets_required ks) keys) (meets_some keys ks) h))
    (or_weaker (not (list_any is_any_of keys)) (list_any (meets_any ks) keys) (list_any (meets_any (put_condition c ks)) keys)
    (any_weaker (meets_any ks) (meets_any (put_condition c ks))
    (λ key k. and_from (is_any_of key) (has_condition (put_condition c ks) key) (left (is_any_of key) (has_condition ks key) k) (any_put (is_on key) c ks (right (is_any_of key) (has_condition ks key) k))) keys)
    (right (list_all (meets_required ks) keys) (meets_some keys ks) h))

met_put_all : (keys : List KeyDecl) (fs ks : List Condition) → is_met keys ks ≡ true → is_met keys (put_all fs ks) ≡ true
met_put_all keys [] ks h = h
met_put_all keys (f ∷ fs) ks h = met_put keys f (put_all fs ks) (met_put_all keys fs ks h)

-- ---- replies with further conditions

abbrev filtered : List ColumnDecl → List Condition → Reply → Reply
filtered columns fs r = record { items = filter (hold_of columns fs) r.items; ending = r.ending }

abbrev filtered_by : List ColumnDecl → Condition → Reply → Reply
filtered_by columns f r = record { items = filter (holds_of columns f) r.items; ending = r.ending }

abbrev with_items : Reply → List Cell → Reply
with_items r xs = record { items = xs; ending = r.ending }

module _ (book : Book) (connection : List ℕ) (table : TableDecl) (d : ListDecl) (only : SubsetKeysOnlyFilter book connection table d) (version : ℕ) (parent : Option Cell) (ks : List Condition)
    (fit : fit_keys d.keys ks ≡ true) (fits : same_presence (is_some parent) (is_some d.parent) ≡ true) where
  abbrev reply_to : List Condition → Reply
  reply_to conditions = book.reply (list_key connection version table.name parent 1 conditions)

  abbrev fit_sent : List Condition → Bool
  fit_sent conditions = is_canonical conditions && list_all (is_sent d.keys) conditions

  canonical : Canonical ks
  canonical = left (is_canonical ks) (list_all (is_sent d.keys) ks) (left (fit_sent ks) (is_met d.keys ks) fit)

  sent : list_all (is_sent d.keys) ks ≡ true
  sent = right (is_canonical ks) (list_all (is_sent d.keys) ks) (left (fit_sent ks) (is_met d.keys ks) fit)

  met : is_met d.keys ks ≡ true
  met = right (fit_sent ks) (is_met d.keys ks) fit

  -- the call with further conditions may be made
  list_call : (fs : List Condition) → Scalars fs → list_all (is_sent d.keys) fs ≡ true → is_list_call d (put_all fs ks) parent ≡ true
  list_call fs s k =
      and_from (fit_keys d.keys (put_all fs ks)) (same_presence (is_some parent) (is_some d.parent))
      (and_from (fit_sent (put_all fs ks)) (is_met d.keys (put_all fs ks))
      (and_from (is_canonical (put_all fs ks)) (list_all (is_sent d.keys) (put_all fs ks)) (put_all_canonical fs ks s canonical) (put_all_all (is_sent d.keys) fs ks k sent))
      (met_put_all d.keys fs ks met))
      fits

  -- the reply with further conditions on keys that only filter
  pub reply_filtered : (fs : List Condition) → Scalars fs → list_all (is_sent d.keys) fs ≡ true → list_all (is_on_subset_key d.keys) fs ≡ true
      → reply_to (put_all fs ks) ≡ filtered table.columns fs (reply_to ks)
  reply_filtered [] s k h = ap (with_items (reply_to ks)) (sym (filter_all (reply_to ks).items))
  reply_filtered (f ∷ fs) s k h =
      let s' : Scalars fs = right (is_scalar_condition f) (list_all is_scalar_condition fs) s in
      let k' : list_all (is_sent d.keys) fs ≡ true = right (is_sent d.keys f) (list_all (is_sent d.keys) fs) k in
      let further : is_further d f ≡ true =
      and_from (is_scalar f.value) (is_on_subset_key d.keys f) (left (is_scalar_condition f) (list_all is_scalar_condition fs) s) (left (is_on_subset_key d.keys f) (list_all (is_on_subset_key d.keys) fs) h) in
      let first = only version 1 parent (put_all fs ks) f (list_call fs s' k') further in
      let later = reply_filtered fs s' k' (right (is_on_subset_key d.keys f) (list_all (is_on_subset_key d.keys) fs) h) in
      first ∙ ap (filtered_by table.columns f) later ∙ ap (with_items (reply_to ks)) (filter_filter (holds_of table.columns f) (hold_of table.columns fs) (reply_to ks).items)
