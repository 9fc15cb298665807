-- The calls of a scan are lawful, and have lines that are read as themselves.
use Rattle.std.proofs.Common.{◌≡◌, ◌≤◌, ◌<◌, ℕ, zero, suc, nat_le, Bool, true, false, ◌&&◌, List, [], ◌∷◌, length, get_or, Option, Some, None, IsSome, is_some, is_none, bytes_eq, refl, sym, ap, subst, ◌∙◌, arith}
use Rattle.std.specs.Prelude.{slice_get, option_map}
use Rattle.std.specs.List.{list_all}
use Rattle.std.specs.Cmp.Lexicographic.{slice_cmp}
use Rattle.std.specs.Ordering.{nat_cmp, match_ordering}
use Rattle.std.specs.declared.cmp.Ordering.{Ordering}
use Rattle.std.specs.declared.cmp.Ordering.TheVariants.{Less, Equal, Greater}
use Rattle.std.proofs.lemmas.Bool.{false≢true, and_from, leb-true, le-leb}
use Rattle.sp_value.specs.Names.{names_of}
use Rattle.sp_value.specs.declared.cell.Cell.{Cell}
use Rattle.sp_model.specs.Calls.{is_attempt, fit_keys, are_results_of, same_presence, is_lawful_list, is_lawful_parents, is_lawful_get, is_lawful_hydrate, is_lawful_by, function_of}
use Rattle.sp_model.specs.Conditions.{is_canonical}
use Rattle.sp_model.specs.Hydration.{put_under, with_result, results_of, find_function, names_of_functions, depends_of}
use Rattle.sp_model.specs.Keys.{is_equality, is_sent, is_met}
use Rattle.sp_model.specs.Names.{are_distinct}
use Rattle.sp_model.specs.RowOf.{has_name}
use Rattle.sp_model.specs.Sayable.{IsItem}
use Rattle.sp_model.specs.Settling.{rule_of, attempts_of}
use Rattle.sp_model.specs.Walk.{list_source, get_source, parent_source, parent_of}
use Rattle.sp_model.specs.declared.call.Call.{Call}
use Rattle.sp_model.specs.declared.call.Call.TheVariants as call
use Rattle.sp_model.specs.declared.call.Condition.{Condition}
use Rattle.sp_model.specs.declared.declaration.AccessDecl.{AccessDecl}
use Rattle.sp_model.specs.declared.declaration.FunctionDecl.{FunctionDecl}
use Rattle.sp_model.specs.declared.declaration.GetDecl.{GetDecl}
use Rattle.sp_model.specs.declared.declaration.KeyDecl.{KeyDecl}
use Rattle.sp_model.specs.declared.declaration.ListDecl.{ListDecl}
use Rattle.sp_model.specs.declared.declaration.Retry.{Retry}
use Rattle.sp_model.specs.declared.declaration.TableDecl.{TableDecl}
use Rattle.sp_model.specs.declared.outcome.Outcome.{Outcome}
use Rattle.sp_model.specs.declared.outcome.Outcome.TheVariants.{Gave, Fails}
use Rattle.sp_model.specs.declared.outcome.Results.{Results}
use Rattle.sp_model.specs.declared.outcome.Results.TheVariants.{Given, Missed, Pending}
use Rattle.sp_model.specs.declared.scan.Access.{Access}
use Rattle.sp_model.specs.declared.scan.Access.TheVariants.{Get, List as OfList, Parents}
use Rattle.sp_model.specs.declared.scan.ScanRequest.{ScanRequest}
use Rattle.sp_world.specs.RequestLines.{IsCallForm, IsResultForm, AreResults}
use Rattle.model_laws.proofs.LawfulCalls.{results_all, results_only}
use Rattle.model_laws.proofs.FewerColumns.{bytes_itself}
use Rattle.model_laws.proofs.Merging.{left, right}
use Rattle.model_laws.specs.LawfulScans.{has_attempts, is_lawful_get_scan, is_lawful_list_scan, has_parent_attempts, is_lawful_parents_scan, is_lawful_access, is_lawful_scan}
use Rattle.hydrate_graph.proofs.Numbering.{found_at}
use Rattle.hydrate_graph.proofs.Settling.{ready_wanted}
use Rattle.hydrate_graph.specs.Graphs.{Plan, known, is_ready, results_at}
use Rattle.hydrate_graph.specs.Numbers.{number_of, name_of, name_at, depends_at}
use Rattle.row_flight.proofs.Naming.{at_some, number_at, get_mapped}
use Rattle.row_flight.specs.Rows.{attempt_of, call_with, call_of, no_rule, rule_at}
use Rattle.row_flight.specs.declared.row.RowCalls.{RowCalls}
use Rattle.scan_laws.specs.States.{Outer, Inner}
use Rattle.scan_core.specs.Calls.{items_source}
use Rattle.scan_core.specs.Next.{outer_source}
use Rattle.one_scan.specs.Forms.{IsAskedBy, IsInnerForm, IsOuterForm, IsResultOutcome, IsRowForm, IsPlanForm}
use Rattle.one_scan.specs.Jobs.{called_table}

-- a lawful call of the table in an attempt, whose line is read as itself
pub record IsLawfulCall (table : TableDecl) (asked : Call) (attempt : ℕ) : Type 0 where
  pub lawful : is_lawful_by table asked attempt ≡ true
  pub form : IsCallForm (function_of table asked) asked
  pub named : called_table asked ≡ table.name

-- ---- attempts

attempt_is : (table : TableDecl) (ignore : Option (List (List ℕ))) (retry : Option Retry) (attempt : ℕ) → 1 ≤ attempt → attempt ≤ attempts_of (rule_of table ignore retry).retry → is_attempt table ignore retry attempt ≡ true
attempt_is table ignore retry attempt one most =
    and_from (nat_le 1 attempt) (nat_le attempt (attempts_of (rule_of table ignore retry).retry)) (le-leb 1 attempt one) (le-leb attempt (attempts_of (rule_of table ignore retry).retry) most)

module _ (table : TableDecl) (cs : List Condition) where
  abbrev fit : List KeyDecl → Bool
  fit keys = fit_keys keys cs

  canonical_of : (keys : List KeyDecl) → fit keys ≡ true → is_canonical cs ≡ true
  canonical_of keys h = left (is_canonical cs) (list_all (is_sent keys) cs) (left (is_canonical cs && list_all (is_sent keys) cs) (is_met keys cs) h)

  get_some : (o : Option GetDecl) → is_lawful_get_scan table cs o ≡ true → 1 ≤ attempts_of (get_source table o).rule.retry
  get_some None h = absurd (false≢true h)
  get_some (Some d) h =
      leb-true 1 _ (left (has_attempts table d.ignore d.retry) (fit d.keys) (left (has_attempts table d.ignore d.retry && fit d.keys) (list_all is_equality cs) h))

  list_some : (o : Option ListDecl) → is_lawful_list_scan table cs o ≡ true → 1 ≤ attempts_of (list_source table o).rule.retry
  list_some None h = absurd (false≢true h)
  list_some (Some d) h =
      leb-true 1 _ (left (has_attempts table d.ignore d.retry) (fit d.keys) (left (has_attempts table d.ignore d.retry && fit d.keys) (is_none d.parent) h))

  child_some : (o : Option ListDecl) → is_lawful_parents_scan table cs o ≡ true → 1 ≤ attempts_of (list_source table o).rule.retry
  child_some None h = absurd (false≢true h)
  child_some (Some d) h =
      leb-true 1 _ (left (has_attempts table d.ignore d.retry) (fit d.keys) (left (has_attempts table d.ignore d.retry && fit d.keys) (has_parent_attempts table d.parent) h))

  parent_some : (p : Option AccessDecl) → has_parent_attempts table p ≡ true → 1 ≤ attempts_of (parent_source table p).rule.retry
  parent_some None h = absurd (false≢true h)
  parent_some (Some a) h = leb-true 1 _ h

  parents_have : (o : Option ListDecl) → is_lawful_parents_scan table cs o ≡ true → has_parent_attempts table (parent_of o) ≡ true
  parents_have None h = absurd (false≢true h)
  parents_have (Some d) h = right (has_attempts table d.ignore d.retry && fit d.keys) (has_parent_attempts table d.parent) h

  pub items_some : (access : Access) → is_lawful_access table cs access ≡ true → 1 ≤ attempts_of (items_source access table).rule.retry
  items_some Get h = get_some table.get h
  items_some OfList h = list_some table.list h
  items_some Parents h = child_some table.list h

  pub outer_some : (access : Access) → is_lawful_access table cs access ≡ true → access ≡ Parents → 1 ≤ attempts_of (outer_source table).rule.retry
  outer_some Get h e = absurd (cc)
  outer_some OfList h e = absurd (cc)
  outer_some Parents h e = parent_some (parent_of table.list) (parents_have table.list h)

  -- ---- gets and lists

  get_by : (o : Option GetDecl) (attempt : ℕ) → table.get ≡ o → is_lawful_get_scan table cs o ≡ true → 1 ≤ attempt → attempt ≤ attempts_of (get_source table o).rule.retry → IsLawfulCall table (call.Get table.name cs) attempt
  get_by None attempt e h one most = absurd (false≢true h)
  get_by (Some d) attempt e h one most =
      let fits : (has_attempts table d.ignore d.retry && fit d.keys) ≡ true = left (has_attempts table d.ignore d.retry && fit d.keys) (list_all is_equality cs) h in
      let keys : fit d.keys ≡ true = right (has_attempts table d.ignore d.retry) (fit d.keys) fits in
      record {
        lawful = and_from (bytes_eq table.name table.name) (is_lawful_get table cs attempt table.get) (bytes_itself table.name)
            (ap (is_lawful_get table cs attempt) e
            ∙ and_from (is_attempt table d.ignore d.retry attempt && fit d.keys) (list_all is_equality cs)
            (and_from (is_attempt table d.ignore d.retry attempt) (fit d.keys) (attempt_is table d.ignore d.retry attempt one most) keys)
            (right (has_attempts table d.ignore d.retry && fit d.keys) (list_all is_equality cs) h));
        form = (subst (λ (z : Option GetDecl). IsSome (option_map (λ (g : GetDecl). g.function) z)) (sym e) refl, canonical_of d.keys keys);
        named = refl;
      }

  list_is : (d : ListDecl) (parent : Option Cell) (attempt : ℕ) → table.list ≡ Some d → fit d.keys ≡ true → same_presence (is_some parent) (is_some d.parent) ≡ true → 1 ≤ attempt → attempt ≤ attempts_of (list_source table (Some d)).rule.retry
      → is_lawful_by table (call.List table.name cs parent) attempt ≡ true
  list_is d parent attempt e keys same one most =
      and_from (bytes_eq table.name table.name) (is_lawful_list table cs parent attempt table.list) (bytes_itself table.name)
      (ap (is_lawful_list table cs parent attempt) e
      ∙ and_from (is_attempt table d.ignore d.retry attempt && fit d.keys) (same_presence (is_some parent) (is_some d.parent))
      (and_from (is_attempt table d.ignore d.retry attempt) (fit d.keys) (attempt_is table d.ignore d.retry attempt one most) keys) same)

  none_none : (p : Option AccessDecl) → is_none p ≡ true → same_presence false (is_some p) ≡ true
  none_none None h = refl
  none_none (Some a) h = absurd (false≢true h)

  some_some : (p : Option AccessDecl) → has_parent_attempts table p ≡ true → same_presence true (is_some p) ≡ true
  some_some None h = absurd (false≢true h)
  some_some (Some a) h = refl

  list_function : (d : ListDecl) → table.list ≡ Some d → IsSome (option_map (λ (l : ListDecl). l.function) table.list)
  list_function d e = subst (λ (z : Option ListDecl). IsSome (option_map (λ (l : ListDecl). l.function) z)) (sym e) refl

  list_by : (o : Option ListDecl) (attempt : ℕ) → table.list ≡ o → is_lawful_list_scan table cs o ≡ true → 1 ≤ attempt → attempt ≤ attempts_of (list_source table o).rule.retry → IsLawfulCall table (call.List table.name cs None) attempt
  list_by None attempt e h one most = absurd (false≢true h)
  list_by (Some d) attempt e h one most =
      let fits : (has_attempts table d.ignore d.retry && fit d.keys) ≡ true = left (has_attempts table d.ignore d.retry && fit d.keys) (is_none d.parent) h in
      let keys : fit d.keys ≡ true = right (has_attempts table d.ignore d.retry) (fit d.keys) fits in
      record {
        lawful = list_is d None attempt e keys (none_none d.parent (right (has_attempts table d.ignore d.retry && fit d.keys) (is_none d.parent) h)) one most;
        form = (list_function d e, canonical_of d.keys keys, tt);
        named = refl;
      }

  child_by : (o : Option ListDecl) (parent : Cell) (attempt : ℕ) → table.list ≡ o → is_lawful_parents_scan table cs o ≡ true → IsItem parent → 1 ≤ attempt → attempt ≤ attempts_of (list_source table o).rule.retry
      → IsLawfulCall table (call.List table.name cs (Some parent)) attempt
  child_by None parent attempt e h item one most = absurd (false≢true h)
  child_by (Some d) parent attempt e h item one most =
      let fits : (has_attempts table d.ignore d.retry && fit d.keys) ≡ true = left (has_attempts table d.ignore d.retry && fit d.keys) (has_parent_attempts table d.parent) h in
      let keys : fit d.keys ≡ true = right (has_attempts table d.ignore d.retry) (fit d.keys) fits in
      record {
        lawful = list_is d (Some parent) attempt e keys (some_some d.parent (right (has_attempts table d.ignore d.retry && fit d.keys) (has_parent_attempts table d.parent) h)) one most;
        form = (list_function d e, canonical_of d.keys keys, item);
        named = refl;
      }

  parents_by : (p : Option AccessDecl) (attempt : ℕ) → parent_of table.list ≡ p → has_parent_attempts table p ≡ true → 1 ≤ attempt → attempt ≤ attempts_of (parent_source table p).rule.retry → IsLawfulCall table (call.Parents table.name) attempt
  parents_by None attempt e h one most = absurd (false≢true h)
  parents_by (Some a) attempt e h one most = record {
    lawful = and_from (bytes_eq table.name table.name) (is_lawful_parents table attempt (parent_of table.list)) (bytes_itself table.name) (ap (is_lawful_parents table attempt) e ∙ attempt_is table a.ignore a.retry attempt one most);
    form = subst (λ (z : Option AccessDecl). IsSome (option_map (λ (x : AccessDecl). x.function) z)) (sym e) refl;
    named = refl;
  }

module _ (table : TableDecl) (request : ScanRequest) where
  asked_by : (access : Access) (attempt : ℕ) (asked : Call) → is_lawful_access table request.conditions access ≡ true → 1 ≤ attempt → attempt ≤ attempts_of (items_source access table).rule.retry → IsAskedBy access table request asked
      → IsLawfulCall table asked attempt
  asked_by Get attempt asked h one most is = subst (λ (z : Call). IsLawfulCall table z attempt) (sym is) (get_by table request.conditions table.get attempt refl h one most)
  asked_by OfList attempt asked h one most is = subst (λ (z : Call). IsLawfulCall table z attempt) (sym is) (list_by table request.conditions table.list attempt refl h one most)
  asked_by Parents attempt asked h one most is = subst (λ (z : Call). IsLawfulCall table z attempt) (sym is.2) (child_by table request.conditions table.list is.0 attempt refl h is.1 one most)

  parents_asked : (access : Access) (attempt : ℕ) → is_lawful_access table request.conditions access ≡ true → access ≡ Parents → 1 ≤ attempt → attempt ≤ attempts_of (outer_source table).rule.retry → IsLawfulCall table (call.Parents table.name) attempt
  parents_asked Get attempt h e one most = absurd (cc)
  parents_asked OfList attempt h e one most = absurd (cc)
  parents_asked Parents attempt h e one most = parents_by table request.conditions (parent_of table.list) attempt refl (parents_have table request.conditions table.list h) one most

  module _ (h : is_lawful_scan table request ≡ true) where
    abbrev distinct : Bool
    distinct = are_distinct (names_of_functions table.functions)

    abbrev tried : Bool
    tried = list_all (λ (f : FunctionDecl). has_attempts table f.ignore f.retry) table.functions

    pub access_lawful : is_lawful_access table request.conditions request.access ≡ true
    access_lawful = left (is_lawful_access table request.conditions request.access) distinct (left (is_lawful_access table request.conditions request.access && distinct) tried h)

    pub functions_apart : are_distinct (names_of_functions table.functions) ≡ true
    functions_apart = right (is_lawful_access table request.conditions request.access) distinct (left (is_lawful_access table request.conditions request.access && distinct) tried h)

    pub functions_tried : list_all (λ (f : FunctionDecl). has_attempts table f.ignore f.retry) table.functions ≡ true
    functions_tried = right (is_lawful_access table request.conditions request.access && distinct) tried h

    pub inner_lawful : (i : Inner) → IsInnerForm table request i → IsLawfulCall table i.asked i.attempt
    inner_lawful i f = asked_by request.access i.attempt i.asked access_lawful f.first (subst (λ s. i.attempt ≤ attempts_of s.rule.retry) f.source f.last) f.asked

    pub outer_lawful : (o : Outer) → IsOuterForm table request o → IsLawfulCall table (call.Parents table.name) o.attempt
    outer_lawful o f = parents_asked request.access o.attempt access_lawful f.access f.first f.last

-- ---- functions

put_results_by : (name : List ℕ) (x : Cell) (m : List ℕ × Cell) (ms rest : List (List ℕ × Cell)) (o : Ordering) → IsResultForm x → AreResults (m ∷ ms) → AreResults rest
    → AreResults (match_ordering o ((name, x) ∷ m ∷ ms) ((name, x) ∷ ms) (m ∷ rest))
put_results_by name x m ms rest Less here all r = (here, all)
put_results_by name x m ms rest Equal here all r = (here, all.1)
put_results_by name x m ms rest Greater here all r = (all.0, r)

put_results : (name : List ℕ) (x : Cell) (ms : List (List ℕ × Cell)) → IsResultForm x → AreResults ms → AreResults (put_under name x ms)
put_results name x [] here all = (here, tt)
put_results name x (m ∷ ms) here all = put_results_by name x m ms (put_under name x ms) (slice_cmp nat_cmp name m.0) here all (put_results name x ms here all.1)

with_results_form : (name : List ℕ) (o : Option Outcome) (r : Results) (results : List (List ℕ × Cell)) → with_result name o r ≡ Given results → IsResultOutcome o → ((xs : List (List ℕ × Cell)) → r ≡ Given xs → AreResults xs) → AreResults results
with_results_form name None r results e is all = absurd (cc)
with_results_form name (Some (Fails cause)) r results e is all = absurd (cc)
with_results_form name (Some (Gave x)) (Given xs) results e is all = let s : put_under name x xs ≡ results = cc in subst AreResults s (put_results name x xs is (all xs refl))
with_results_form name (Some (Gave x)) (Missed cause) results e is all = absurd (cc)
with_results_form name (Some (Gave x)) Pending results e is all = absurd (cc)

results_form : (gives : List ℕ → Option Outcome) (names : List (List ℕ)) (results : List (List ℕ × Cell)) → ((name : List ℕ) → IsResultOutcome (gives name)) → results_of gives names ≡ Given results → AreResults results
results_form gives [] results all e = let s : [] ≡ results = cc in subst AreResults s tt
results_form gives (n ∷ ns) results all e = with_results_form n (gives n) (results_of gives ns) results e (all n) (λ xs h. results_form gives ns xs all h)

slot_within : (slots : List (Option ℕ)) (k : ℕ) → is_some (get_or slots k None) ≡ true → k < length slots
slot_within [] k h = absurd (false≢true h)
slot_within (s ∷ slots) zero h = omega arith
slot_within (s ∷ slots) (suc k) h = let l = slot_within slots k h in omega (arith, l)

module _ (table : TableDecl) (apart : are_distinct (names_of_functions table.functions) ≡ true) (plan : Plan) (p : IsPlanForm table plan) (row : RowCalls) (f : IsRowForm plan row) (k : ℕ) (ready : is_ready row.graph k ≡ true) where
  own_functions : row.graph.plan.functions ≡ table.functions
  own_functions = ap (λ (q : Plan). q.functions) f.of_plan ∙ p.functions

  within : k < length table.functions
  within =
      let w : is_some (get_or row.graph.plan.slots k None) ≡ true = ready_wanted row.graph.plan row.graph.settled k ready in
      let v : is_some (get_or plan.slots k None) ≡ true = subst (λ (q : Plan). is_some (get_or q.slots k None) ≡ true) f.of_plan w in
      let l = slot_within plan.slots k v in
      let n = p.count in
      let m : length plan.functions ≡ length table.functions = ap (λ (fs : List FunctionDecl). length fs) p.functions in
      omega (arith, l, n, m)

  given_lawful : (d : FunctionDecl) → slice_get table.functions k ≡ Some d → (results : List (List ℕ × Cell)) → results_at row.graph k ≡ Given results
      → IsLawfulCall table (call.Hydrate table.name (name_at row.graph.plan.functions k) row.graph.item results) (suc (attempt_of row k).tries)
  given_lawful d at results given =
      let number : number_of table.functions d.name ≡ k = number_at table.functions d k apart at in
      let found : find_function d.name table.functions ≡ Some d = found_at d.name table.functions ∙ ap (slice_get table.functions) number ∙ at in
      let name : name_at row.graph.plan.functions k ≡ d.name = ap (λ fs. name_at fs k) own_functions ∙ ap name_of at in
      let depends : depends_at row.graph.plan.functions k ≡ d.depends = ap (λ fs. depends_at fs k) own_functions ∙ ap depends_of at in
      let are : results_of (known row.graph) d.depends ≡ Given results = ap (results_of (known row.graph)) (sym depends) ∙ given in
      let rule : rule_at plan k ≡ rule_of table d.ignore d.retry = ap (λ rs. get_or rs k no_rule) p.rules ∙ get_mapped (λ (g : FunctionDecl). rule_of table g.ignore g.retry) table.functions k d no_rule at in
      let last : suc (attempt_of row k).tries ≤ attempts_of (rule_of table d.ignore d.retry).retry = subst (λ r. suc (attempt_of row k).tries ≤ attempts_of r.retry) rule (f.attempts k).last in
      let named : IsLawfulCall table (call.Hydrate table.name d.name row.graph.item results) (suc (attempt_of row k).tries) = record {
        lawful = and_from (bytes_eq table.name table.name) (is_lawful_hydrate table results (suc (attempt_of row k).tries) (find_function d.name table.functions)) (bytes_itself table.name)
            (ap (is_lawful_hydrate table results (suc (attempt_of row k).tries)) found
            ∙ and_from (is_attempt table d.ignore d.retry (suc (attempt_of row k).tries)) (are_results_of d.depends results) (attempt_is table d.ignore d.retry (suc (attempt_of row k).tries) (omega arith) last)
            (and_from (list_all (has_name (names_of results)) d.depends) (list_all (has_name d.depends) (names_of results)) (results_all (known row.graph) d.depends results are) (results_only (known row.graph) d.depends results are)));
        form = (refl, f.item, results_form (known row.graph) d.depends results (λ n. f.gave (number_of row.graph.plan.functions n)) are);
        named = refl;
      } in
      subst (λ (n : List ℕ). IsLawfulCall table (call.Hydrate table.name n row.graph.item results) (suc (attempt_of row k).tries)) (sym name) named

  by_results : (d : FunctionDecl) → slice_get table.functions k ≡ Some d → (r : Results) → results_at row.graph k ≡ r → (asked : Call) → call_with table.name (name_at row.graph.plan.functions k) row.graph.item r ≡ Some asked
      → IsLawfulCall table asked (suc (attempt_of row k).tries)
  by_results d at (Given results) given asked e =
      let s : call.Hydrate table.name (name_at row.graph.plan.functions k) row.graph.item results ≡ asked = cc in
      subst (λ (z : Call). IsLawfulCall table z (suc (attempt_of row k).tries)) s (given_lawful d at results given)
  by_results d at (Missed cause) given asked e = absurd (cc)
  by_results d at Pending given asked e = absurd (cc)

  pub row_lawful : (asked : Call) → call_of table.name row k ≡ Some asked → IsLawfulCall table asked (suc (attempt_of row k).tries)
  row_lawful asked e = let d = at_some table.functions k within in by_results d.0 d.1 (results_at row.graph k) refl asked e
