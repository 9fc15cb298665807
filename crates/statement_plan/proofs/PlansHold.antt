-- The sources of a plan are as requests are made of them.
use Rattle.std.proofs.Common.{◌≡◌, ℕ, ◌+◌, Bool, true, false, List, [], ◌∷◌, ◌++◌, filter, cond, Option, Some, None, slice_get, All, length, refl, sym, ap, ◌∙◌, subst}
use Rattle.std.proofs.lemmas.Bool.{and_from}
use Rattle.std.proofs.lemmas.List.{append_assoc, length_push}
use Rattle.std.proofs.lemmas.List.Elements.{All-nil, All-cons}
use Rattle.std.specs.Arc.{arc_value}
use Rattle.std.specs.List.{list_all}
use Rattle.sp_model.specs.Keys.{is_sent, fan_of, with_equals, is_met}
use Rattle.sp_model.specs.Names.{has_name}
use Rattle.sp_model.specs.Requests.{keys_for, fan_in, fan_for, subset_for}
use Rattle.sp_model.specs.RowOf.{names_of_columns, columns_named}
use Rattle.sp_model.specs.declared.call.Condition.{Condition}
use Rattle.sp_model.specs.declared.declaration.KeyDecl.{KeyDecl}
use Rattle.sp_model.specs.declared.declaration.TableDecl.{TableDecl}
use Rattle.sp_model.specs.declared.scan.Access.{Access}
use Rattle.model_laws.proofs.Merging.{left, right}
use Rattle.source_scans.proofs.EachValue.{again as distinct_again}
use Rattle.source_scans.specs.Asking.{condition_at}
use Rattle.source_scans.specs.Planned.{IsFan, IsPlanned, conditions_of, fan_column}
use Rattle.source_scans.specs.declared.source.PlanCondition.{PlanCondition}
use Rattle.source_scans.specs.declared.source.PlanSource.{PlanSource}
use Rattle.sql_bind.specs.declared.bound.Bound.{Bound}
use Rattle.column_tests.specs.declared.test.Test.{Test}
use Rattle.sql_bind.specs.declared.bound.BoundSource.{BoundSource}
use Rattle.sql_bind.specs.declared.bound.Column.{Column}
use Rattle.statement_plan.proofs.Covering.{again}
use Rattle.statement_plan.proofs.Meeting.{sent_meet, chosen_is_met, fan_is_sent, fan_is_listed}
use Rattle.statement_plan.proofs.NamedColumns.{covered, all_read, conditions_on, listed_on, named_are_covered}
use Rattle.statement_plan.specs.Columns.{columns_of, named, names_within, columns_for, layout_of}
use Rattle.statement_plan.specs.Conjuncts.{conjuncts_of}
use Rattle.statement_plan.specs.Plans.{AreSourcesOf}
use Rattle.statement_plan.specs.Sources.{conditions_from, is_sent_on, asked_for, listed_for, fan_by, values_under, IsSourceOf}

-- ---- sent conditions

sent_by : (keys : List KeyDecl) (c : PlanCondition) (cs : List PlanCondition) (b : Bool) → is_sent_on keys c ≡ b → list_all (is_sent keys) (conditions_of cs) ≡ true
    → list_all (is_sent keys) (conditions_of (cond b (c ∷ cs) cs)) ≡ true
sent_by keys c cs true e h = and_from (is_sent keys (condition_at [] c)) (list_all (is_sent keys) (conditions_of cs)) e h
sent_by keys c cs false e h = h

all_sent : (keys : List KeyDecl) (cs : List PlanCondition) → list_all (is_sent keys) (conditions_of (filter (is_sent_on keys) cs)) ≡ true
all_sent keys [] = refl
all_sent keys (c ∷ cs) = sent_by keys c (filter (is_sent_on keys) cs) (is_sent_on keys c) refl (all_sent keys cs)

of_sent_by : (keys : List KeyDecl) (c : PlanCondition) (cs : List PlanCondition) (ds : List Condition) (b : Bool) → conditions_of cs ≡ ds
    → conditions_of (cond b (c ∷ cs) cs) ≡ cond b (condition_at [] c ∷ ds) ds
of_sent_by keys c cs ds true h = ap (λ l. condition_at [] c ∷ l) h
of_sent_by keys c cs ds false h = h

of_sent : (keys : List KeyDecl) (cs : List PlanCondition) → conditions_of (filter (is_sent_on keys) cs) ≡ filter (is_sent keys) (conditions_of cs)
of_sent keys [] = refl
of_sent keys (c ∷ cs) = of_sent_by keys c (filter (is_sent_on keys) cs) (filter (is_sent keys) (conditions_of cs)) (is_sent keys (condition_at [] c)) (of_sent keys cs)

named_by : (columns : List (List ℕ)) (c : PlanCondition) (cs : List PlanCondition) (b : Bool) → has_name columns c.column ≡ true → list_all (λ d. has_name columns d.column) (conditions_of cs) ≡ true
    → list_all (λ d. has_name columns d.column) (conditions_of (cond b (c ∷ cs) cs)) ≡ true
named_by columns c cs true h k = and_from (has_name columns c.column) (list_all (λ d. has_name columns d.column) (conditions_of cs)) h k
named_by columns c cs false h k = k

all_named : (keys : List KeyDecl) (columns : List (List ℕ)) (cs : List PlanCondition) → list_all (λ d. has_name columns d.column) cs ≡ true
    → list_all (λ d. has_name columns d.column) (conditions_of (filter (is_sent_on keys) cs)) ≡ true
all_named keys columns [] h = refl
all_named keys columns (c ∷ cs) h =
    named_by columns c (filter (is_sent_on keys) cs) (is_sent_on keys c) (left (has_name columns c.column) (list_all (λ d. has_name columns d.column) cs) h)
    (all_named keys columns cs (right (has_name columns c.column) (list_all (λ d. has_name columns d.column) cs) h))

-- ---- the fan

fan_is : (table : TableDecl) (access : Access) (keys : List KeyDecl) (lists : List (List ℕ)) → keys_for table access ≡ Some keys → fan_for table access lists ≡ fan_of keys lists
unfolding fan_for
fan_is table access keys lists h = ap (λ o. fan_in o lists) h

fan_holds : (keys : List KeyDecl) (columns : List (List ℕ)) (sources : List BoundSource) (k : ℕ) (es : List (Test Column)) (lists : List (List ℕ)) (column : Option (List ℕ)) → fan_of keys lists ≡ column
    → list_all (has_name columns) lists ≡ true → IsFan keys columns (fan_by sources k es column)
fan_holds keys columns sources k es lists None e h = tt
fan_holds keys columns sources k es lists (Some name) e h = record {
  distinct = distinct_again [] (values_under sources k name es);
  sent = fan_is_sent keys lists name e;
  named = fan_is_listed (has_name columns) keys lists name h e;
}

fan_column_is : (sources : List BoundSource) (k : ℕ) (es : List (Test Column)) (column : Option (List ℕ)) → fan_column (fan_by sources k es column) ≡ column
fan_column_is sources k es None = refl
fan_column_is sources k es (Some name) = refl

-- ---- a source

pub source_holds : (b : Bound) (k : ℕ) (s : BoundSource) (p : PlanSource) → slice_get b.sources k ≡ Some s → IsSourceOf b k s p → IsPlanned p
source_holds b k s p at h =
    let es : List (Test Column) = conjuncts_of b in
    let layout : List (List (List ℕ)) = layout_of b in
    let columns : List (List ℕ) = columns_for b.sources (named b) k s.table in
    let cs : List PlanCondition = conditions_from b.sources layout k es in
    let lists : List (List ℕ) = listed_for b k in
    let read : list_all (λ y. list_all (covered b.sources layout k columns) (columns_of y)) es ≡ true =
    all_read (covered b.sources layout k columns) b (named_are_covered b.sources k s (named b) at) in
    let on : list_all (λ d. has_name columns d.column) cs ≡ true = conditions_on b.sources layout k columns es read in
    let listed : list_all (has_name columns) lists ≡ true = listed_on b.sources layout k columns es read in
    let fan : fan_for s.table p.access lists ≡ fan_of p.keys lists = fan_is s.table p.access p.keys lists h.keys in
    let met : is_met p.keys (with_equals (fan_of p.keys lists) (asked_for b k)) ≡ true = chosen_is_met s.table lists (asked_for b k) p.keys p.access h.access h.keys in
    record {
      keys = ap (λ t. keys_for t p.access) h.table ∙ h.keys;
      subset = h.subset ∙ sym (ap (λ t. subset_for t p.access) h.table);
      columns = h.columns ∙ sym (again (names_within b.sources k (named b)) s.table.columns)
          ∙ sym (ap (λ t. names_of_columns (columns_named columns t.columns)) h.table) ∙ sym (ap (λ ns. names_of_columns (columns_named ns (arc_value p.table).columns)) h.columns);
      sent = ap (λ l. list_all (is_sent p.keys) (conditions_of l)) h.conditions ∙ all_sent p.keys cs;
      named = ap (λ ns. list_all (λ d. has_name ns d.column) (conditions_of p.conditions)) h.columns
          ∙ ap (λ l. list_all (λ d. has_name columns d.column) (conditions_of l)) h.conditions ∙ all_named p.keys columns cs on;
      fan = subst (λ ns. IsFan p.keys ns p.fan) (sym h.columns)
          (subst (IsFan p.keys columns) (sym (h.fan ∙ ap (fan_by b.sources k es) fan)) (fan_holds p.keys columns b.sources k es lists (fan_of p.keys lists) refl listed));
      met = ap (λ f. is_met p.keys (with_equals (fan_column f) (conditions_of p.conditions))) (h.fan ∙ ap (fan_by b.sources k es) fan)
          ∙ ap (λ o. is_met p.keys (with_equals o (conditions_of p.conditions))) (fan_column_is b.sources k es (fan_of p.keys lists))
          ∙ ap (λ l. is_met p.keys (with_equals (fan_of p.keys lists) (conditions_of l))) h.conditions
          ∙ ap (λ l. is_met p.keys (with_equals (fan_of p.keys lists) l)) (of_sent p.keys cs)
          ∙ sent_meet p.keys (fan_of p.keys lists) (asked_for b k) met;
    }

-- ---- all sources

at_length : {X : Type 0} (before : List X) (x : X) (after : List X) → slice_get (before ++ x ∷ after) (length before) ≡ Some x
at_length [] x after = refl
at_length (y ∷ ys) x after = at_length ys x after

sources_hold : (b : Bound) (before ss : List BoundSource) (k : ℕ) (ps : List PlanSource) → k ≡ length before → b.sources ≡ before ++ ss → AreSourcesOf b k ss ps → All IsPlanned ps
sources_hold b before [] k [] e q h = All-nil IsPlanned
sources_hold b before [] k (p ∷ ps) e q h = absurd h
sources_hold b before (s ∷ ss) k [] e q h = absurd h
sources_hold b before (s ∷ ss) k (p ∷ ps) e q h =
    All-cons IsPlanned p ps (source_holds b k s p (ap (slice_get b.sources) e ∙ ap (λ l. slice_get l (length before)) q ∙ at_length before s ss) h.0)
    (sources_hold b (before ++ s ∷ []) ss (k + 1) ps (ap (λ n. n + 1) e ∙ sym (length_push before s)) (q ∙ sym (append_assoc before (s ∷ []) ss)) h.1)

pub plans_hold : (b : Bound) (ps : List PlanSource) → AreSourcesOf b 0 b.sources ps → All IsPlanned ps
plans_hold b ps h = sources_hold b [] b.sources 0 ps refl refl h
