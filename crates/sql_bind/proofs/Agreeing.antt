-- What is bound depends on the declarations of the connections that the statement needs, and on no other.
use Rattle.std.proofs.Common.{◌≡◌, ℕ, List, [], ◌∷◌, ◌++◌, map, refl, ap, ◌∙◌, inl, inr}
use Rattle.std.specs.Prelude.{true, Option, Result, bytes_eq, is_some, slice_get, option_and_then, option_map}
use Rattle.std.specs.List.{list_any, flat_map, filter_map, cons_option}
use Rattle.std.specs.Option.{option_or}
use Rattle.std.proofs.Math.Bool.{or-true}
use Rattle.std.proofs.lemmas.Slice.Eq.{bytes_eq-Decides}
use Rattle.sp_model.specs.declared.declaration.Declaration.{Declaration}
use Rattle.sp_model.specs.declared.declaration.TableDecl.{TableDecl}
use Rattle.sp_model.specs.declared.settings.Settings.{Settings}
use Rattle.sql_grammar.specs.declared.ast.Statement.{Statement}
use Rattle.sql_bind.specs.Answer.{BindsByItsConnections, connections_named, plain_connections, refused_part, refused_or, each_once, with_name, bound_with}
use Rattle.sql_bind.specs.Binding.{bound_by}
use Rattle.sql_bind.specs.First.{first_of}
use Rattle.sql_bind.specs.Members.{members_named, declared_under}
use Rattle.sql_bind.specs.Parts.{parts_of}
use Rattle.sql_bind.specs.Refusals.{place_unless, table_place, unknown_connection, unknown_table, ninth_source}
use Rattle.sql_bind.specs.Sources.{Opened, Seen, opened, first_table, with_table, seen_by, seen_of, table_of}
use Rattle.sql_bind.specs.declared.bound.Bound.{Bound}
use Rattle.sql_bind.specs.declared.fault.BindFault.{BindFault}
use Rattle.sql_bind.specs.declared.fault.BindFault.TheVariants as fault
use Rattle.sql_bind.proofs.Declared.{split}

-- it holds of each
abbrev pub Each : {A : Type 0} → (A → Type 0) → List A → Type 0
Each P [] = Unit {0}
Each P (x ∷ xs) = P x × Each P xs

each_front : {A : Type 0} (P : A → Type 0) (xs ys : List A) → Each P (xs ++ ys) → Each P xs
each_front P [] ys all = tt
each_front P (x ∷ xs) ys all = (all.0, each_front P xs ys all.1)

each_back : {A : Type 0} (P : A → Type 0) (xs ys : List A) → Each P (xs ++ ys) → Each P ys
each_back P [] ys all = all
each_back P (x ∷ xs) ys all = each_back P xs ys all.1

-- ---- names taken once

-- it holds of a name that is there
each_there : (P : List ℕ → Type 0) (names : List (List ℕ)) (name : List ℕ) → list_any (bytes_eq name) names ≡ true → Each P names → P name
each_there P [] name there all = absurd (cc)
each_there P (n ∷ ns) name there all = elim (split (bytes_eq name n)) [
  | inl is ↦ let same : name ≡ n = (bytes_eq-Decides name n).0 is in rw same all.0
  | inr is ↦ each_there P ns name (rw is at there) all.1
]

with_name_found : (P : List ℕ → Type 0) (found : List (List ℕ)) (name : List ℕ) → Each P (with_name found name) → Each P found
with_name_found P found name all = elim (split (list_any (bytes_eq name) found)) [
  | inl is ↦ rw is at all
  | inr is ↦ each_front P found (name ∷ []) (rw is at all)
]

with_name_name : (P : List ℕ → Type 0) (found : List (List ℕ)) (name : List ℕ) → Each P (with_name found name) → P name
with_name_name P found name all = elim (split (list_any (bytes_eq name) found)) [
  | inl is ↦ each_there P found name is (rw is at all)
  | inr is ↦ let last : Each P (name ∷ []) = each_back P found (name ∷ []) (rw is at all) in last.0
]

each_found : (P : List ℕ → Type 0) (found names : List (List ℕ)) → Each P (each_once found names) → Each P found
each_found P found [] all = all
each_found P found (name ∷ names) all = with_name_found P found name (each_found P (with_name found name) names all)

-- what holds of each name that is taken once holds of all of them
pub each_name : (P : List ℕ → Type 0) (found names : List (List ℕ)) → Each P (each_once found names) → Each P names
each_name P found [] all = tt
each_name P found (name ∷ names) all =
    (with_name_name P found name (each_found P (with_name found name) names all), each_name P (with_name found name) names all)

-- ---- declarations

abbrev pub AgreeAt : (List ℕ → Option Declaration) → (List ℕ → Option Declaration) → List ℕ → Type 0
AgreeAt f g name = f name ≡ g name

abbrev pub names_of : List Opened → List (List ℕ)
names_of os = map (λ o. o.source.connection.text) os

same_table : (f g : List ℕ → Option Declaration) (o : Opened) → AgreeAt f g o.source.connection.text → table_of f o.source ≡ table_of g o.source
same_table f g o e = ap (option_and_then (λ (d : Declaration). first_table o.source.table.text d.tables)) e

abbrev pub place_by : Opened → Option TableDecl → Option ℕ
place_by o table = place_unless (is_some table) o.source.table.place

same_place : (f g : List ℕ → Option Declaration) (os : List Opened) → Each (AgreeAt f g) (names_of os) → first_of (table_place f) os ≡ first_of (table_place g) os
same_place f g [] agree = refl
same_place f g (o ∷ os) agree =
    ap (λ table. option_or (place_by o table) (first_of (table_place f) os)) (same_table f g o agree.0)
    ∙ ap (option_or (place_by o (table_of g o.source))) (same_place f g os agree.1)

same_seen : (f g : List ℕ → Option Declaration) (os : List Opened) → Each (AgreeAt f g) (names_of os) → filter_map (seen_by f) os ≡ filter_map (seen_by g) os
same_seen f g [] agree = refl
same_seen f g (o ∷ os) agree =
    ap (λ table. cons_option (option_map (with_table o) table) (filter_map (seen_by f) os)) (same_table f g o agree.0)
    ∙ ap (cons_option (seen_by g o)) (same_seen f g os agree.1)

abbrev pub bound_when : Settings → Statement → Option ℕ → List Seen → Result Bound BindFault
bound_when settings s unknown seen =
    refused_or (option_or (option_map fault.UnknownConnection (unknown_connection settings s))
    (option_or (option_map fault.UnknownTable unknown)
    (option_or (refused_part (parts_of seen s))
    (option_map fault.TooManyTables (ninth_source s))))) (bound_by settings seen s)

each_of : (P : List ℕ → Type 0) (names : List (List ℕ)) → ((name : List ℕ) → list_any (bytes_eq name) names ≡ true → P name) → Each P names
each_of P [] holds = tt
each_of P (n ∷ ns) holds =
    (holds n (rw ((bytes_eq-Decides n n).1 refl) refl), each_of P ns (λ name there. holds name (rw (there, or-true (bytes_eq name n)) refl)))

-- ---- members

first_agrees : (f g : List ℕ → Option Declaration) (names : List (List ℕ)) → Each (AgreeAt f g) names
    → option_and_then f (slice_get names 0) ≡ option_and_then g (slice_get names 0)
first_agrees f g [] all = refl
first_agrees f g (n ∷ ns) all = all.0

agree_under : (settings : Settings) (f g : List ℕ → Option Declaration) (names : List (List ℕ)) → Each (AgreeAt f g) (flat_map (members_named settings) names)
    → Each (AgreeAt (declared_under settings f) (declared_under settings g)) names
agree_under settings f g [] all = tt
agree_under settings f g (n ∷ ns) all = (
  first_agrees f g (members_named settings n) (each_front (AgreeAt f g) (members_named settings n) (flat_map (members_named settings) ns) all),
  agree_under settings f g ns (each_back (AgreeAt f g) (members_named settings n) (flat_map (members_named settings) ns) all),
)

bound_alike : (settings : Settings) (f g : List ℕ → Option Declaration) (s : Statement) → Each (AgreeAt f g) (names_of (opened s)) → bound_with settings f s ≡ bound_with settings g s
bound_alike settings f g s all =
    ap (λ unknown. bound_when settings s unknown (seen_of f s)) (same_place f g (opened s) all)
    ∙ ap (bound_when settings s (unknown_table g s)) (same_seen f g (opened s) all)

-- declarations that agree on the plain connections that a statement needs bind it alike
pub binds_by_its_connections : BindsByItsConnections
binds_by_its_connections settings f g s agree =
    let plain = flat_map (members_named settings) (connections_named s) in
    let all : Each (AgreeAt f g) plain = each_name (AgreeAt f g) [] plain (each_of (AgreeAt f g) (plain_connections settings s) agree) in
    let named : Each (AgreeAt (declared_under settings f) (declared_under settings g)) (connections_named s) = agree_under settings f g (connections_named s) all in
    bound_alike settings (declared_under settings f) (declared_under settings g) s
    (each_name (AgreeAt (declared_under settings f) (declared_under settings g)) [] (names_of (opened s)) named)
