-- The keys of a get that was read take `=` alone.
use Rattle.std.proofs.Common.{◌≡◌, ℕ, suc, ◌⊎◌, inl, inr, Bool, true, false, List, [], ◌∷◌, map, Option, Some, None, Result, Ok, Err, if◌then◌else◌, refl, sym, ap, subst, ◌∙◌}
use Rattle.std.specs.Prelude.{codes, option_and_then, option_map}
use Rattle.std.specs.Option.{option_map_or}
use Rattle.serde_json.specs.Data.{Data, Items, no_items, item}
use Rattle.serde_json.specs.Find.{get, as_array}
use Rattle.sp_model.specs.declared.declaration.ColumnDecl.{ColumnDecl}
use Rattle.sp_model.specs.declared.declaration.Declaration.{Declaration}
use Rattle.sp_model.specs.declared.declaration.FunctionDecl.{FunctionDecl}
use Rattle.sp_model.specs.declared.declaration.GetDecl.{GetDecl}
use Rattle.sp_model.specs.declared.declaration.KeyDecl.{KeyDecl}
use Rattle.sp_model.specs.declared.declaration.ListDecl.{ListDecl}
use Rattle.sp_model.specs.declared.declaration.Rule.{Rule}
use Rattle.sp_model.specs.declared.declaration.TableDecl.{TableDecl}
use Rattle.decl_words.specs.Columns.{columns_of, function_of}
use Rattle.decl_words.specs.Keys.{keys_of, fit_get, checked_get_keys, get_keys_of, get_from, get_members, get_access_of, list_access_of}
use Rattle.decl_words.specs.Members.{has_only, optional, optional_or, list_of, name_of}
use Rattle.decl_words.specs.Reading.{fault_of, with_plugin_rule, finished, unless_refused, by_rules, read_declaration}
use Rattle.decl_words.specs.Rules.{rule_in, call_rules_in}
use Rattle.decl_words.specs.Tables.{accesses_from, accesses_in, table_from, table_with, table_members, table_of, with_table, tables_from, with_rule, draft_from, declaration_members, draft_of}
use Rattle.decl_words.specs.declared.fault.DeclFault.{DeclFault}
use Rattle.decl_words.specs.declared.rules.CallRules.{CallRules}
use Rattle.decl_words.specs.declared.tables.Accesses.{Accesses}
use Rattle.decl_words.proofs.Lists.{In}

split : (b : Bool) → (b ≡ true) ⊎ (b ≡ false)
split true = inl refl
split false = inr refl

abbrev pub gets_by_equality : TableDecl → Bool
gets_by_equality t = option_map_or (λ (g : GetDecl). fit_get g.keys) t.get true

checked_fit : (ks keys : List KeyDecl) → checked_get_keys ks ≡ Some keys → fit_get keys ≡ true
checked_fit ks keys h = elim (split (fit_get ks)) [
  | inl fits ↦ let same : ks ≡ keys = of_some (rw fits at h) in subst (λ (x : List KeyDecl). fit_get x ≡ true) same fits
  | inr not ↦ let never : None ≡ Some keys = rw not at h in absurd (cc)
]
  where
    of_some : Some ks ≡ Some keys → ks ≡ keys
    of_some e = cc

keys_fit : (o : Option (List KeyDecl)) (keys : List KeyDecl) → option_and_then checked_get_keys o ≡ Some keys → fit_get keys ≡ true
keys_fit None keys h = absurd (cc)
keys_fit (Some ks) keys h = checked_fit ks keys h

member_fit : (columns : List ColumnDecl) (o : Option Data) (keys : List KeyDecl) → option_and_then (get_keys_of columns) o ≡ Some keys → fit_get keys ≡ true
member_fit columns None keys h = absurd (cc)
member_fit columns (Some d) keys h = keys_fit (keys_of columns d) keys h

from_fit : (f : Option (List ℕ)) (k : Option (List KeyDecl)) (r : Option CallRules) (g : GetDecl) → ((keys : List KeyDecl) → k ≡ Some keys → fit_get keys ≡ true)
    → get_from f k r ≡ Some g → fit_get g.keys ≡ true
from_fit (Some f) (Some keys) (Some r) g fits h = let same : keys ≡ g.keys = cc in subst (λ (x : List KeyDecl). fit_get x ≡ true) same (fits keys refl)
from_fit None k r g fits h = absurd (cc)
from_fit (Some f) None r g fits h = absurd (cc)
from_fit (Some f) (Some keys) None g fits h = absurd (cc)

access_fits : (columns : List ColumnDecl) (d : Data) (g : GetDecl) → get_access_of columns d ≡ Some g → fit_get g.keys ≡ true
access_fits columns d g h = elim (split (has_only get_members d)) [
  | inl only ↦ from_fit (option_and_then name_of (get (codes "function") d)) (option_and_then (get_keys_of columns) (get (codes "keys") d)) (call_rules_in d) g (member_fit columns (get (codes "keys") d)) (rw only at h)
  | inr other ↦ let never : None ≡ Some g = rw other at h in absurd (cc)
]

-- ---- a table

abbrev of_get : Option GetDecl → Bool
of_get o = option_map_or (λ (g : GetDecl). fit_get g.keys) o true

optional_fits : (columns : List ColumnDecl) (o : Option Data) (g : Option GetDecl) → optional (get_access_of columns) o ≡ Some g → of_get g ≡ true
optional_fits columns None g h = let same : None ≡ g = cc in subst (λ (x : Option GetDecl). of_get x ≡ true) same refl
optional_fits columns (Some d) g h = read (get_access_of columns d) refl h
  where
    read : (o : Option GetDecl) → get_access_of columns d ≡ o → option_map Some o ≡ Some g → of_get g ≡ true
    read None is e = absurd (cc)
    read (Some x) is e = let same : Some x ≡ g = cc in subst (λ (y : Option GetDecl). of_get y ≡ true) same (access_fits columns d x is)

accesses_fit : (columns : List ColumnDecl) (d : Data) (list : Option (Option ListDecl)) (got : Option (Option GetDecl)) (a : Accesses)
    → ((g : Option GetDecl) → got ≡ Some g → of_get g ≡ true) → accesses_from list got ≡ Some a → of_get a.get ≡ true
accesses_fit columns d (Some list) (Some got) a fits h = let same : got ≡ a.get = cc in subst (λ (x : Option GetDecl). of_get x ≡ true) same (fits got refl)
accesses_fit columns d None got a fits h = absurd (cc)
accesses_fit columns d (Some list) None a fits h = absurd (cc)

table_fits : (name : Option (List ℕ)) (columns : List ColumnDecl) (a : Option Accesses) (fs : Option (List FunctionDecl)) (rule : Option Rule) (t : TableDecl)
    → ((x : Accesses) → a ≡ Some x → of_get x.get ≡ true) → table_from name columns a fs rule ≡ Some t → gets_by_equality t ≡ true
table_fits (Some name) columns (Some a) (Some fs) (Some rule) t fits h = let same : a.get ≡ t.get = cc in subst (λ (x : Option GetDecl). of_get x ≡ true) same (fits a refl)
table_fits None columns a fs rule t fits h = absurd (cc)
table_fits (Some name) columns None fs rule t fits h = absurd (cc)
table_fits (Some name) columns (Some a) None rule t fits h = absurd (cc)
table_fits (Some name) columns (Some a) (Some fs) None t fits h = absurd (cc)

with_fits : (d : Data) (columns : List ColumnDecl) (t : TableDecl) → table_with d columns ≡ Some t → gets_by_equality t ≡ true
with_fits d columns t h =
    table_fits (option_and_then name_of (get (codes "name") d)) columns (accesses_in columns d) (optional_or [] (list_of function_of) (get (codes "functions") d)) (rule_in d) t
    (λ x is. accesses_fit columns d (optional (list_access_of columns) (get (codes "list") d)) (optional (get_access_of columns) (get (codes "get") d)) x (optional_fits columns (get (codes "get") d)) is) h

read_fits : (d : Data) (t : TableDecl) → table_of d ≡ Some t → gets_by_equality t ≡ true
read_fits d t h = elim (split (has_only table_members d)) [
  | inl only ↦ by_columns (option_and_then columns_of (get (codes "columns") d)) (rw only at h)
  | inr other ↦ let never : None ≡ Some t = rw other at h in absurd (cc)
]
  where
    by_columns : (o : Option (List ColumnDecl)) → option_and_then (table_with d) o ≡ Some t → gets_by_equality t ≡ true
    by_columns None e = absurd (cc)
    by_columns (Some columns) e = with_fits d columns t e

-- ---- a declaration

abbrev AllGet : List TableDecl → Type 0
AllGet ts = (t : TableDecl) → In t ts → gets_by_equality t ≡ true

more_fit : (number : ℕ) (o : Option TableDecl) (r : Result (List TableDecl) DeclFault) (ts : List TableDecl) → ((t : TableDecl) → o ≡ Some t → gets_by_equality t ≡ true)
    → ((xs : List TableDecl) → r ≡ Ok xs → AllGet xs) → with_table number o r ≡ Ok ts → AllGet ts
more_fit number None r ts one rest h t at = absurd (cc)
more_fit number (Some x) (Err f) ts one rest h t at = absurd (cc)
more_fit number (Some x) (Ok xs) ts one rest h t at = let same : ts ≡ x ∷ xs = cc in of_either (subst (In t) same at)
  where
    of_either : In t (x ∷ xs) → gets_by_equality t ≡ true
    of_either (inl is) = subst (λ (y : TableDecl). gets_by_equality y ≡ true) (sym is) (one x refl)
    of_either (inr later) = rest xs refl t later

from_items : (number : ℕ) (ds : Items) (ts : List TableDecl) → tables_from number ds ≡ Ok ts → AllGet ts
from_items number no_items ts h t at = let same : ts ≡ [] = cc in absurd (subst (In t) same at)
from_items number (item d ds) ts h t at = more_fit number (table_of d) (tables_from (suc number) ds) ts (λ t is. read_fits d t is) (λ xs is. from_items (suc number) ds xs is) h t at

draft_fits : (rule : Option Rule) (o : Option Items) (d : Declaration) → draft_from rule o ≡ Ok d → AllGet d.tables
draft_fits None o d h t at = absurd (cc)
draft_fits (Some rule) None d h t at = absurd (cc)
draft_fits (Some rule) (Some ds) d h t at = of_tables (tables_from 1 ds) refl h t at
  where
    of_tables : (r : Result (List TableDecl) DeclFault) → tables_from 1 ds ≡ r → with_rule rule r ≡ Ok d → AllGet d.tables
    of_tables (Err f) is e t at = absurd (cc)
    of_tables (Ok ts) is e t at = let same : d.tables ≡ ts = cc in from_items 1 ds ts is t (subst (In t) same at)

all_draft : (value : Data) (d : Declaration) → draft_of value ≡ Ok d → AllGet d.tables
all_draft value d h = elim (split (has_only declaration_members value)) [
  | inl only ↦ draft_fits (rule_in value) (option_and_then as_array (get (codes "tables") value)) d (rw only at h)
  | inr other ↦ λ t at. absurd (cc)
]

mapped_fit : (rule : Rule) (ts : List TableDecl) → AllGet ts → AllGet (map (with_plugin_rule rule) ts)
mapped_fit rule [] all t at = absurd at
mapped_fit rule (x ∷ xs) all t (inl is) = subst (λ (y : TableDecl). gets_by_equality y ≡ true) (sym is) (all x (inl refl))
mapped_fit rule (x ∷ xs) all t (inr later) = mapped_fit rule xs (λ y there. all y (inr there)) t later

-- each table of a declaration that was read gets by equalities alone
pub read_gets : (value : Data) (d : Declaration) → read_declaration value ≡ Ok d → (t : TableDecl) → In t d.tables → gets_by_equality t ≡ true
read_gets value d h = by_draft (draft_of value) refl h
  where
    refused_or : (x : Declaration) (o : Option DeclFault) → draft_of value ≡ Ok x → unless_refused x o ≡ Ok d → AllGet d.tables
    refused_or x (Some f) is e t at = absurd (cc)
    refused_or x None is e t at =
        let same : d ≡ finished x = cc in
        mapped_fit (record { ignore = x.ignore; retry = x.retry }) x.tables (all_draft value x is) t (subst (λ (y : Declaration). In t y.tables) same at)

    by_draft : (r : Result Declaration DeclFault) → draft_of value ≡ r → by_rules r ≡ Ok d → AllGet d.tables
    by_draft (Err f) is e t at = absurd (cc)
    by_draft (Ok x) is e t at = refused_or x (fault_of x) is e t at
