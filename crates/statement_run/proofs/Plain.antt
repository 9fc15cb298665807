-- The connections that a statement needs are plain ones of the settings.
use Rattle.std.proofs.Common.{◌≡◌, ◌⊎◌, inl, inr, ℕ, Bool, true, false, List, [], ◌∷◌, map, filter, find, Option, Some, None, Result, Ok, Err, refl, ap, subst, sym, ◌∙◌}
use Rattle.std.specs.Prelude.{bytes_eq, not, is_some, option_map}
use Rattle.std.specs.List.{list_any, list_all, flat_map}
use Rattle.sp_model.specs.Names.{has_name}
use Rattle.sp_model.specs.declared.settings.Connection.{Connection}
use Rattle.sp_model.specs.declared.settings.Settings.{Settings}
use Rattle.declaration_run.specs.Declaring.{ArePlain}
use Rattle.sql_grammar.specs.declared.ast.Statement.{Statement}
use Rattle.sql_bind.proofs.Agreeing.{Each, names_of}
use Rattle.sql_bind.proofs.Declared.{split}
use Rattle.sql_bind.specs.Answer.{connections_named, plain_connections, needed, refused_or, each_once}
use Rattle.sql_bind.specs.First.{first_of}
use Rattle.sql_bind.specs.Known.{is_connection}
use Rattle.sql_bind.specs.Members.{connection_named, members_by, members_named}
use Rattle.sql_bind.specs.Refusals.{connection_place, place_unless, unknown_connection}
use Rattle.sql_bind.specs.Sources.{Opened, opened}
use Rattle.sql_bind.specs.declared.fault.BindFault.{BindFault}
use Rattle.sql_bind.specs.declared.fault.BindFault.TheVariants as fault
use Rattle.statement_words.specs.Runs.{plain_names}
use Rattle.statement_run.specs.Settings.{members_are_plain}
use Rattle.statement_run.proofs.Eaches.{each_then, among_each, once_each, parts_each, true_of_all, is_it, itself}

module _ (settings : Settings) (served : members_are_plain settings ≡ true) where
  abbrev IsPlain : List ℕ → Type 0
  IsPlain name = has_name (plain_names settings.connections) name ≡ true

  -- the members of a connection of these are plain
  of_connection : (cs : List Connection) → Each (λ c. list_all (has_name (plain_names settings.connections)) c.members ≡ true) cs → (name : List ℕ) (c : Connection) → find (λ x. bytes_eq x.name name) cs ≡ Some c
      → Each IsPlain c.members
  of_connection [] all name c e = absurd (cc)
  of_connection (x ∷ xs) all name c e = elim (split (bytes_eq x.name name)) [
    | inl is ↦ here (rw is at e)
    | inr isnt ↦ of_connection xs all.1 name c (rw isnt at e)
  ]
    where
      here : Some x ≡ Some c → Each IsPlain c.members
      here same = let it : x ≡ c = cc in
          true_of_all (has_name (plain_names settings.connections)) c.members (subst (λ (y : Connection). list_all (has_name (plain_names settings.connections)) y.members ≡ true) it all.0)

  -- a filter keeps only what was there
  of_filter : (P : List ℕ → Type 0) (test : List ℕ → Bool) (names : List (List ℕ)) → Each P names → Each P (filter test names)
  of_filter P test [] all = tt
  of_filter P test (n ∷ ns) all = elim (split (test n)) [
    | inl is ↦ rw is (all.0, of_filter P test ns all.1)
    | inr isnt ↦ rw isnt (of_filter P test ns all.1)
  ]

  members_plain : (name : List ℕ) → is_connection settings name ≡ true → Each IsPlain (members_named settings name)
  unfolding plain_names
  members_plain name known = by (connection_named settings name) refl
    where
      is_found : (cs : List Connection) → list_any (λ c. bytes_eq c.name name) cs ≡ true → find (λ c. bytes_eq c.name name) cs ≡ None → ⊥
      is_found [] h e = cc
      is_found (c ∷ cs) h e = elim (split (bytes_eq c.name name)) [
        | inl is ↦ let never : Some c ≡ None = rw is at e in cc
        | inr isnt ↦ is_found cs (rw isnt at h) (rw isnt at e)
      ]

      own_name : (cs : List Connection) (c : Connection) → find (λ x. bytes_eq x.name name) cs ≡ Some c → c.aggregator ≡ false → has_name (map (λ (x : Connection). x.name) (filter (λ (x : Connection). not x.aggregator) cs)) name ≡ true
      own_name [] c e plain = absurd (cc)
      own_name (x ∷ xs) c e plain = elim (split (bytes_eq x.name name)) [
        | inl is ↦ at_first is (rw is at e)
        | inr isnt ↦ elim (split x.aggregator) [
          | inl one ↦ rw one (own_name xs c (rw isnt at e) plain)
          | inr other ↦ rw other (later (own_name xs c (rw isnt at e) plain))
        ]
      ]
        where
          rest : List (List ℕ)
          rest = map (λ (y : Connection). y.name) (filter (λ (y : Connection). not y.aggregator) xs)

          at_first : bytes_eq x.name name ≡ true → Some x ≡ Some c → has_name (map (λ (y : Connection). y.name) (filter (λ (y : Connection). not y.aggregator) (x ∷ xs))) name ≡ true
          at_first is same =
              let it : x ≡ c = cc in
              let no_aggregator : x.aggregator ≡ false = ap (λ (y : Connection). y.aggregator) it ∙ plain in
              let here : bytes_eq name x.name ≡ true = subst (λ (n : List ℕ). bytes_eq n x.name ≡ true) (is_it x.name name is) (itself x.name) in
              rw (no_aggregator, here) refl

          later : has_name rest name ≡ true → has_name (x.name ∷ rest) name ≡ true
          later h = elim (split (bytes_eq name x.name)) [
            | inl is ↦ rw is refl
            | inr isnt ↦ rw (isnt, h) refl
          ]

      alone : (c : Connection) → connection_named settings name ≡ Some c → c.aggregator ≡ false → IsPlain name
      alone c e plain = own_name settings.connections c e plain

      by : (o : Option Connection) → connection_named settings name ≡ o → Each IsPlain (members_by settings name o)
      by None e = absurd (is_found settings.connections known e)
      by (Some c) e = elim (split c.aggregator) [
        | inl is ↦ rw is (of_filter IsPlain (is_connection settings) c.members (of_connection settings.connections (true_of_all (λ x. list_all (has_name (plain_names settings.connections)) x.members) settings.connections served) name c e))
        | inr plain ↦ rw plain (alone c e plain, tt)
      ]

  -- where no connection is unknown each is known
  all_known : (os : List Opened) → first_of (connection_place settings) os ≡ None → Each (λ n. is_connection settings n ≡ true) (names_of os)
  all_known [] e = tt
  all_known (o ∷ os) e = elim (split (is_connection settings o.source.connection.text)) [
    | inl is ↦ (is, all_known os (rw is at e))
    | inr isnt ↦ let never : Some o.source.connection.place ≡ None = rw isnt at e in absurd (cc)
  ]

  pub needed_plain : (s : Statement) (connections : List (List ℕ)) → needed settings s ≡ Ok connections → (connections ≡ plain_connections settings s) × ArePlain settings connections
  needed_plain s connections e = by (unknown_connection settings s) refl e
    where
      named_known : unknown_connection settings s ≡ None → Each (λ n. is_connection settings n ≡ true) (connections_named s)
      named_known none = once_each (λ n. is_connection settings n ≡ true) [] (names_of (opened s)) tt (all_known (opened s) none)

      plain : unknown_connection settings s ≡ None → Each IsPlain (plain_connections settings s)
      plain none = once_each IsPlain [] (flat_map (members_named settings) (connections_named s)) tt
          (parts_each IsPlain (members_named settings) (connections_named s) (each_then (λ n. is_connection settings n ≡ true) (λ n. Each IsPlain (members_named settings n)) members_plain (connections_named s) (named_known none)))

      by : (u : Option ℕ) → unknown_connection settings s ≡ u → refused_or (option_map fault.UnknownConnection u) (plain_connections settings s) ≡ Ok connections → (connections ≡ plain_connections settings s) × ArePlain settings connections
      by None none is = let same : connections ≡ plain_connections settings s = cc in
          (same, λ name among. among_each IsPlain (plain_connections settings s) (plain none) name (subst (λ (xs : List (List ℕ)). has_name xs name ≡ true) same among))
      by (Some place) unknown is = absurd (cc)
