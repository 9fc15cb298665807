-- The tables of a bound statement are sound, and those of its plan can be hydrated.
use Rattle.std.proofs.Common.{◌≡◌, ◌≤◌, ℕ, zero, suc, ◌+◌, Bool, true, false, cond, List, [], ◌∷◌, filter, take, length, All, Option, Some, None, Ok, refl, sym, subst, arith}
use Rattle.std.proofs.lemmas.Bool.{and_parts, and_from}
use Rattle.std.proofs.lemmas.List.Elements.{All-nil, All-cons, All-head, All-tail}
use Rattle.std.specs.Arc.{arc_value}
use Rattle.std.specs.List.{list_all, filter_map, cons_option}
use Rattle.std.specs.Prelude.{bytes_eq, slice_get, option_map, option_and_then}
use Rattle.sp_model.specs.Rests.{column_rests}
use Rattle.sp_model.specs.RowOf.{columns_named}
use Rattle.sp_model.specs.declared.declaration.Declaration.{Declaration}
use Rattle.sp_model.specs.declared.declaration.TableDecl.{TableDecl}
use Rattle.sp_model.specs.declared.settings.Settings.{Settings}
use Rattle.decl_words.specs.Sound.{IsSound}
use Rattle.sql_grammar.specs.declared.ast.Statement.{Statement}
use Rattle.sql_bind.specs.Answer.{refused_or, refusal, bound}
use Rattle.sql_bind.specs.Binding.{source_of, sources_from, bound_by}
use Rattle.sql_bind.specs.Members.{first_member, declared_under}
use Rattle.sql_bind.specs.Sources.{Opened, Seen, opened, first_table, table_of, with_table, seen_by, seen_of}
use Rattle.sql_bind.specs.declared.bound.Bound.{Bound}
use Rattle.sql_bind.specs.declared.bound.BoundSource.{BoundSource}
use Rattle.sql_bind.specs.declared.fault.BindFault.{BindFault}
use Rattle.source_scans.specs.declared.source.PlanSource.{PlanSource}
use Rattle.statement_plan.specs.Plans.{AreSourcesOf}
use Rattle.explain_text.specs.Explained.{AreSound}
use Rattle.explain_text.specs.Functions.{CanHydrate}

-- ---- a sound table can be hydrated

-- what each of a list keeps, each of a part of it keeps
in_part : {X : Type 0} (p q : X → Bool) (xs : List X) → list_all p xs ≡ true → list_all p (filter q xs) ≡ true
in_part p q [] h = refl
in_part p q (x ∷ xs) h =
    let both = and_parts (p x) (list_all p xs) h in
    let later : list_all p (filter q xs) ≡ true = in_part p q xs both.1 in
    elim (q x) as (λ b. list_all p (cond b (x ∷ filter q xs) (filter q xs)) ≡ true) [ true ↦ and_from (p x) (list_all p (filter q xs)) both.0 later | false ↦ later ]

few_functions : (t : TableDecl) → IsSound t → length t.functions ≤ 64
few_functions t s = search (arith, s.limits)

few_columns : (t : TableDecl) → IsSound t → length t.columns ≤ 256
few_columns t s = search (arith, s.limits)

columns_rest : (t : TableDecl) (names : List (List ℕ)) → IsSound t → list_all (column_rests t.functions) (columns_named names t.columns) ≡ true
columns_rest t names s = in_part (column_rests t.functions) _ t.columns s.rests

can_hydrate : (t : TableDecl) → IsSound t → CanHydrate t
can_hydrate t s = let few = few_columns t s in record { few = few_functions t s; few_columns = omega arith; rest = λ columns. columns_rest t columns s }

-- ---- the tables of sources

abbrev OfSource : BoundSource → Type 0
OfSource s = CanHydrate s.table

abbrev OfSeen : Seen → Type 0
OfSeen s = CanHydrate s.table

found_here : (b : Bool) (x t : TableDecl) (later : Option TableDecl) → IsSound x → (later ≡ Some t → IsSound t) → cond b (Some x) later ≡ Some t → IsSound t
found_here true x t later sound rest e = let same : x ≡ t = cc in subst IsSound same sound
found_here false x t later sound rest e = rest e

found_sound : (name : List ℕ) (tables : List TableDecl) (t : TableDecl) → All IsSound tables → first_table name tables ≡ Some t → IsSound t
found_sound name [] t sound e = absurd (cc)
found_sound name (x ∷ xs) t sound e =
    found_here (bytes_eq x.name name) x t (first_table name xs) (All-head IsSound x xs sound) (found_sound name xs t (All-tail IsSound x xs sound)) e

in_declared : (name : List ℕ) (o : Option Declaration) (t : TableDecl) → ((d : Declaration) → o ≡ Some d → All IsSound d.tables)
    → option_and_then (λ (d : Declaration). first_table name d.tables) o ≡ Some t → IsSound t
in_declared name None t sound e = absurd (cc)
in_declared name (Some d) t sound e = found_sound name d.tables t (sound d refl) e

of_member : (declarations : List ℕ → Option Declaration) → AreSound declarations → (member : Option (List ℕ)) (d : Declaration) → option_and_then declarations member ≡ Some d → All IsSound d.tables
of_member declarations sound None d e = absurd (cc)
of_member declarations sound (Some name) d e = sound name d e

add_seen : (o : Opened) (table : Option TableDecl) (later : List Seen) → ((t : TableDecl) → table ≡ Some t → IsSound t) → All OfSeen later
    → All OfSeen (cons_option (option_map (with_table o) table) later)
add_seen o None later sound all = all
add_seen o (Some t) later sound all = All-cons OfSeen (with_table o t) later (can_hydrate t (sound t refl)) all

seen_sound : (settings : Settings) (declarations : List ℕ → Option Declaration) → AreSound declarations → (os : List Opened)
    → All OfSeen (filter_map (seen_by (declared_under settings declarations)) os)
seen_sound settings declarations sound [] = All-nil OfSeen
seen_sound settings declarations sound (o ∷ os) =
    add_seen o (table_of (declared_under settings declarations) o.source) (filter_map (seen_by (declared_under settings declarations)) os)
    (λ t e. in_declared o.source.table.text (declared_under settings declarations o.source.connection.text) t
    (λ d is. of_member declarations sound (first_member settings o.source.connection.text) d is) e)
    (seen_sound settings declarations sound os)

sources_sound : (settings : Settings) (all : List Seen) (n : ℕ) (seen : List Seen) → All OfSeen seen → All OfSource (sources_from settings all n seen)
sources_sound settings all n [] h = All-nil OfSource
sources_sound settings all n (s ∷ ss) h =
    All-cons OfSource (source_of settings (take (n + 1) all) s) (sources_from settings all (n + 1) ss) (All-head OfSeen s ss h)
    (sources_sound settings all (n + 1) ss (All-tail OfSeen s ss h))

of_bound : (r : Option BindFault) (b c : Bound) → refused_or r b ≡ Ok c → b ≡ c
of_bound (Some f) b c e = absurd (cc)
of_bound None b c e = cc

pub bound_sound : (settings : Settings) (declarations : List ℕ → Option Declaration) (s : Statement) (b : Bound) → AreSound declarations → bound settings declarations s ≡ Ok b
    → All (λ s. CanHydrate s.table) b.sources
bound_sound settings declarations s b sound e =
    let under = declared_under settings declarations in
    let seen = seen_of under s in
    let same : bound_by settings seen s ≡ b = of_bound (refusal settings under seen s) (bound_by settings seen s) b e in
    subst (λ (x : Bound). All OfSource x.sources) same (sources_sound settings seen 0 seen (seen_sound settings declarations sound (opened s)))

-- ---- the tables of a plan

abbrev OfPlan : PlanSource → Type 0
OfPlan p = CanHydrate (arc_value p.table)

plans_from : (b : Bound) (k : ℕ) (ss : List BoundSource) (ps : List PlanSource) → AreSourcesOf b k ss ps → All OfSource ss → All OfPlan ps
plans_from b k [] [] h all = All-nil OfPlan
plans_from b k [] (p ∷ ps) h all = absurd h
plans_from b k (s ∷ ss) [] h all = absurd h
plans_from b k (s ∷ ss) (p ∷ ps) h all =
    All-cons OfPlan p ps (subst CanHydrate (sym h.0.table) (All-head OfSource s ss all)) (plans_from b (k + 1) ss ps h.1 (All-tail OfSource s ss all))

pub plans_sound : (b : Bound) (ps : List PlanSource) → AreSourcesOf b 0 b.sources ps → All (λ s. CanHydrate s.table) b.sources → All (λ p. CanHydrate (arc_value p.table)) ps
plans_sound b ps h all = plans_from b 0 b.sources ps h all

pub plan_at : (ps : List PlanSource) (k : ℕ) (p : PlanSource) → All (λ p. CanHydrate (arc_value p.table)) ps → slice_get ps k ≡ Some p → CanHydrate (arc_value p.table)
plan_at [] k p all e = absurd (cc)
plan_at (x ∷ xs) zero p all e = let same : x ≡ p = cc in subst OfPlan same (All-head OfPlan x xs all)
plan_at (x ∷ xs) (suc k) p all e = plan_at xs k p (All-tail OfPlan x xs all) e
