-- Settings that were read are such by which statements can be answered.
use Rattle.std.proofs.Common.{◌≡◌, inl, inr, ℕ, ℤ, pos, negsuc, Bool, true, false, cond, List, [], ◌∷◌, map, filter, Option, Some, None, Result, Ok, Err, refl, ap, subst, sym}
use Rattle.std.specs.Prelude.{bytes_eq, not, nat_le}
use Rattle.std.specs.List.{list_all}
use Rattle.std.specs.Option.{ok_or}
use Rattle.std.proofs.lemmas.Bool.{leb-true}
use Rattle.std.proofs.lemmas.Slice.Eq.{bytes_eq-Decides}
use Rattle.toml.specs.Data.{Data}
use Rattle.sp_model.specs.Names.{has_name}
use Rattle.sp_model.specs.declared.settings.Connection.{Connection}
use Rattle.sp_model.specs.declared.settings.Limiter.{Limiter}
use Rattle.sp_model.specs.declared.settings.Options.{Options}
use Rattle.sp_model.specs.declared.settings.Settings.{Settings}
use Rattle.settings_text.specs.Aggregators.{is_member, members_of, with_its_members, with_members, is_empty_aggregator, members_differ}
use Rattle.settings_text.specs.Entries.{written_of}
use Rattle.settings_text.specs.Limits.{options_from, options_within, within, is_long, widest_window}
use Rattle.settings_text.specs.Reading.{unless, are_many, connections_within, limiters_within, settings_from, within_limits, settings_of, served_settings_of, of_written, of_document, document_of, read_settings, first_connection, first_limiter, duplicate}
use Rattle.settings_text.specs.declared.fault.Entry.{Entry}
use Rattle.settings_text.specs.declared.fault.SettingsFault.{SettingsFault}
use Rattle.settings_text.specs.declared.fault.SettingsFault.TheVariants.{NotYet, Duplicate, EmptyAggregator, MembersDiffer, Limit}
use Rattle.settings_text.specs.declared.fault.Entry.TheVariants.{Top, Options as OptionsEntry}
use Rattle.settings_text.specs.declared.written.Written.{Written}
use Rattle.sql_bind.proofs.Declared.{split}
use Rattle.statement_words.specs.Runs.{plain_names}
use Rattle.statement_run.specs.Settings.{CanRun}

-- ---- members

abbrev names_of : List Connection → List (List ℕ)
names_of cs = map (λ (c : Connection). c.name) (filter (λ (c : Connection). not c.aggregator) cs)

same_names : (all cs : List Connection) → names_of (map (with_its_members all) cs) ≡ names_of cs
same_names all [] = refl
same_names all (c ∷ cs) = by c.aggregator (same_names all cs)
  where
    by : (b : Bool) → names_of (map (with_its_members all) cs) ≡ names_of cs → map (λ (d : Connection). d.name) (cond (not b) (with_its_members all c ∷ filter (λ (d : Connection). not d.aggregator) (map (with_its_members all) cs)) (filter (λ (d : Connection). not d.aggregator) (map (with_its_members all) cs)))
        ≡ map (λ (d : Connection). d.name) (cond (not b) (c ∷ filter (λ (d : Connection). not d.aggregator) cs) (filter (λ (d : Connection). not d.aggregator) cs))
    by true h = h
    by false h = ap (λ ns. c.name ∷ ns) h

-- each name of the connections that pass is that of a plain one, where only plain ones pass
plain_pass : (test : Connection → Bool) → ((c : Connection) → test c ≡ true → c.aggregator ≡ false) → (wide : List (List ℕ)) (cs : List Connection)
    → ((n : List ℕ) → has_name (names_of cs) n ≡ true → has_name wide n ≡ true) → list_all (has_name wide) (map (λ (c : Connection). c.name) (filter test cs)) ≡ true
plain_pass test only wide [] inside = refl
plain_pass test only wide (c ∷ cs) inside = elim (split (test c)) [
  | inl is ↦ rw is (rw (inside c.name (first (only c is)), plain_pass test only wide cs later) refl)
  | inr isnt ↦ rw isnt (plain_pass test only wide cs later)
]
  where
    first : c.aggregator ≡ false → has_name (names_of (c ∷ cs)) c.name ≡ true
    first plain = rw plain (rw ((bytes_eq-Decides c.name c.name).1 refl) refl)

    one_more : (n : List ℕ) → has_name (names_of cs) n ≡ true → has_name (c.name ∷ names_of cs) n ≡ true
    one_more n h = elim (split (bytes_eq n c.name)) [
      | inl is ↦ rw is refl
      | inr isnt ↦ rw (isnt, h) refl
    ]

    wider : (n : List ℕ) → has_name (names_of cs) n ≡ true → has_name (names_of (c ∷ cs)) n ≡ true
    wider n h = elim (split c.aggregator) [
      | inl is ↦ rw is h
      | inr isnt ↦ rw isnt (one_more n h)
    ]

    later : (n : List ℕ) → has_name (names_of cs) n ≡ true → has_name wide n ≡ true
    later n h = inside n (wider n h)

member_is_plain : (a c : Connection) → is_member a c ≡ true → c.aggregator ≡ false
member_is_plain a c h = elim (split c.aggregator) [
  | inl is ↦ let never : false ≡ true = rw is at h in absurd (cc)
  | inr isnt ↦ isnt
]

its_members : (all : List Connection) (c : Connection) → list_all (has_name (names_of all)) (members_of all c) ≡ true
its_members all c = by c.aggregator (plain_pass (is_member c) (member_is_plain c) (names_of all) all (λ n h. h))
  where
    by : (b : Bool) → list_all (has_name (names_of all)) (map (λ (m : Connection). m.name) (filter (is_member c) all)) ≡ true
        → list_all (has_name (names_of all)) (cond b (map (λ (m : Connection). m.name) (filter (is_member c) all)) []) ≡ true
    by true h = h
    by false h = refl

all_members : (all cs : List Connection) (names : List (List ℕ)) → names ≡ names_of all → list_all (λ (c : Connection). list_all (has_name names) c.members) (map (with_its_members all) cs) ≡ true
all_members all [] names same = refl
all_members all (c ∷ cs) names same = rw (subst (λ (ns : List (List ℕ)). list_all (has_name ns) (members_of all c) ≡ true) (sym same) (its_members all c), all_members all cs names same) refl

plain_members : (all : List Connection) → list_all (λ (c : Connection). list_all (has_name (plain_names (with_members all))) c.members) (with_members all) ≡ true
unfolding plain_names
plain_members all = all_members all all (names_of (with_members all)) (same_names all all)

-- ---- the window

in_range : (least most : ℕ) (z : ℤ) (n : ℕ) → within least most z ≡ Some n → (nat_le least n ≡ true) × (nat_le n most ≡ true)
in_range least most (pos m) n h = elim (split (nat_le least m)) [
  | inl low ↦ elim (split (nat_le m most)) [
    | inl high ↦ let same : m ≡ n = of_some (rw (low, high) at h) in (subst (λ x. nat_le least x ≡ true) same low, subst (λ x. nat_le x most ≡ true) same high)
    | inr isnt ↦ let never : None ≡ Some n = rw (low, isnt) at h in absurd (cc)
  ]
  | inr isnt ↦ let never : None ≡ Some n = rw isnt at h in absurd (cc)
]
  where
    of_some : Some m ≡ Some n → m ≡ n
    of_some e = cc
in_range least most (negsuc m) n h = absurd (cc)

window_of : (cache : Bool) (ttl max window restarts : Option ℕ) (o : Options) → options_from cache ttl max window restarts ≡ Some o → window ≡ Some o.window
window_of cache (Some t) (Some m) (Some w) (Some r) o h = let same : w ≡ o.window = cc in ap Some same
window_of cache None m w r o h = absurd (cc)
window_of cache (Some t) None w r o h = absurd (cc)
window_of cache (Some t) (Some m) None r o h = absurd (cc)
window_of cache (Some t) (Some m) (Some w) None o h = absurd (cc)

-- ---- what was read

pub record IsWithin (w : Written) (s : Settings) : Type 0 where
  pub options : options_within w.options ≡ Some s.options
  pub connections : s.connections ≡ with_members w.connections

of_parts : (w : Written) (o : Option Options) (c : Result (List Connection) SettingsFault) (l : Result (List Limiter) SettingsFault) (s : Settings)
    → settings_from (ok_or o (Limit OptionsEntry)) c l ≡ Ok s → (o ≡ Some s.options) × (c ≡ Ok s.connections)
of_parts w None c l s h = absurd (cc)
of_parts w (Some o) (Err f) l s h = absurd (cc)
of_parts w (Some o) (Ok c) (Err f) s h = absurd (cc)
of_parts w (Some o) (Ok c) (Ok l) s h = let a : o ≡ s.options = cc in let b : c ≡ s.connections = cc in (ap Some a, ap Ok b)

past : {T : Type 0} (fault : Entry → SettingsFault) (o : Option Entry) (more : Result T SettingsFault) (x : T) → unless fault o more ≡ Ok x → more ≡ Ok x
past fault None more x h = h
past fault (Some at) more x h = absurd (cc)

is_within : (w : Written) (s : Settings) → within_limits w ≡ Ok s → IsWithin w s
is_within w s h = elim (split (are_many w)) [
  | inl many ↦ let never : Err (Limit Top) ≡ Ok s = rw many at h in absurd (cc)
  | inr few ↦ of_few (rw few at h)
]
  where
    ok_is : (a b : List Connection) (r : Result (List Connection) SettingsFault) → r ≡ Ok a → r ≡ Ok b → a ≡ b
    ok_is a b r e f = cc

    of_few : settings_from (ok_or (options_within w.options) (Limit OptionsEntry)) (connections_within w) (limiters_within 1 w.limiters) ≡ Ok s → IsWithin w s
    of_few e =
        let parts = of_parts w (options_within w.options) (connections_within w) (limiters_within 1 w.limiters) s e in
        record { options = parts.0; connections = sym (ok_is (with_members w.connections) s.connections (Ok (with_members w.connections)) refl (past Limit (first_connection is_long w) (Ok (with_members w.connections)) s.connections parts.1)) }

can_run : (w : Written) (s : Settings) → IsWithin w s → CanRun s
can_run w s h =
    let o = w.options in
    let window = window_of o.cache (within 0 1000000000000 o.cache_ttl) (within 1 1024 o.cache_max) (within 1 widest_window o.window) (within 0 100 o.restarts) s.options h.options in
    let range = in_range 1 widest_window o.window s.options.window window in
    record {
      members = subst (λ (cs : List Connection). list_all (λ (c : Connection). list_all (has_name (plain_names cs)) c.members) cs ≡ true) (sym h.connections) (plain_members w.connections);
      least = leb-true 1 s.options.window range.0;
      most = leb-true s.options.window widest_window range.1;
    }

of_served : (w : Written) (s : Settings) → served_settings_of w ≡ Ok s → CanRun s
of_served w s h =
    can_run w s (is_within w s
    (past MembersDiffer (first_connection (members_differ w.connections) w) (within_limits w) s
    (past EmptyAggregator (first_connection (is_empty_aggregator w.connections) w) (unless MembersDiffer (first_connection (members_differ w.connections) w) (within_limits w)) s
    (past Duplicate (duplicate w) (unless EmptyAggregator (first_connection (is_empty_aggregator w.connections) w) (unless MembersDiffer (first_connection (members_differ w.connections) w) (within_limits w))) s
    (past NotYet (first_limiter w.limiters) (settings_of w) s h)))))

of_read : (d : Option Data) (s : Settings) → of_document served_settings_of d ≡ Ok s → CanRun s
of_read None s h = absurd (cc)
of_read (Some d) s h = by (written_of d) h
  where
    by : (r : Result Written SettingsFault) → of_written served_settings_of r ≡ Ok s → CanRun s
    by (Err f) e = absurd (cc)
    by (Ok w) e = of_served w s e

pub read_can_run : (bytes : List ℕ) (s : Settings) → read_settings bytes ≡ Ok s → CanRun s
read_can_run bytes s h = of_read (document_of bytes) s h
