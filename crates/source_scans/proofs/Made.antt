-- What holds of each scan that a planned source asks for.
use Rattle.std.proofs.Common.{◌≡◌, ℕ, Bool, true, false, ◌&&◌, ◌||◌, not, List, [], ◌∷◌, ◌++◌, map, cond, if◌then◌else◌, Option, Some, None, bytes_eq, refl, sym, ap, ◌∙◌}
use Rattle.std.proofs.lemmas.Bool.{and_from}
use Rattle.std.proofs.lemmas.List.{append_assoc}
use Rattle.std.proofs.lemmas.List.Elements.{All-nil, All-cons}
use Rattle.std.proofs.lemmas.List.Folds.{list_all-append}
use Rattle.std.specs.List.{All, list_all, list_any, filter_map, flat_map, cons_option}
use Rattle.std.specs.Arc.{arc_value}
use Rattle.std.specs.Ordering.{match_ordering}
use Rattle.std.specs.declared.cmp.Ordering.{Ordering}
use Rattle.std.specs.declared.cmp.Ordering.TheVariants.{Less, Equal, Greater}
use Rattle.sp_value.specs.declared.cell.Cell.{Cell}
use Rattle.sp_model.proofs.PlainLists.{any_there}
use Rattle.sp_model.specs.Conditions.{is_canonical, condition_cmp}
use Rattle.sp_model.specs.Keys.{is_on, is_sent, equals, with_equals, has_condition, is_required, is_any_of, is_met, put_condition, canonical}
use Rattle.sp_model.specs.Names.{has_name}
use Rattle.sp_model.specs.Requests.{keys_for, are_sent}
use Rattle.sp_model.specs.Units.{all_agree, unit_of_sent, with_value}
use Rattle.sp_model.specs.declared.call.Condition.{Condition}
use Rattle.sp_model.specs.declared.declaration.KeyDecl.{KeyDecl}
use Rattle.model_laws.proofs.FewerColumns.{bytes_itself}
use Rattle.model_laws.proofs.Merging.{left, right, is_scalar_condition, Scalars, all_put, put_canonical}
use Rattle.model_laws.proofs.Orders.{Scalar, same_exact}
use Rattle.source_scans.proofs.RowUnits.{sent_anywhere, scans_are_units}
use Rattle.source_scans.specs.Asking.{condition_at, unit_scan, units_at, with_unit, each_once, units_of, request_of, requests_of, same_unit}
use Rattle.source_scans.specs.Collecting.{with_fan, scans_under, scans_at}
use Rattle.source_scans.specs.Planned.{IsFan, IsPlanned, IsMadeBy, conditions_of, fan_column, unlimited}
use Rattle.source_scans.specs.declared.source.Fan.{Fan}
use Rattle.source_scans.specs.declared.source.PlanCondition.{PlanCondition}
use Rattle.source_scans.specs.declared.source.PlanSource.{PlanSource}
use Rattle.source_scans.specs.declared.unit_scan.UnitScan.{UnitScan}

-- ---- conditions in canonical order

canonical_is : (cs : List Condition) → Scalars cs → is_canonical (canonical cs) ≡ true
canonical_is [] h = refl
canonical_is (c ∷ cs) h = put_canonical c (canonical cs) (left (is_scalar_condition c) (list_all is_scalar_condition cs) h) (canonical_is cs (right (is_scalar_condition c) (list_all is_scalar_condition cs) h))

canonical_all : (p : Condition → Bool) (cs : List Condition) → list_all p cs ≡ true → list_all p (canonical cs) ≡ true
canonical_all p [] h = refl
canonical_all p (c ∷ cs) h = all_put p c (canonical cs) (left (p c) (list_all p cs) h) (canonical_all p cs (right (p c) (list_all p cs) h))

or_itself : (a b : Bool) → (a || b) ≡ (a || (a || b))
or_itself true b = refl
or_itself false b = refl

or_swap : (a b c : Bool) → (a || (b || c)) ≡ (b || (a || c))
or_swap true true c = refl
or_swap true false c = refl
or_swap false true c = refl
or_swap false false c = refl

any_put_by : (p : Condition → Bool) (c d : Condition) (ds : List Condition) (o : Ordering) → condition_cmp c d ≡ o → Scalar c → Scalar d
    → list_any p (put_condition c ds) ≡ (p c || list_any p ds)
    → list_any p (match_ordering o (c ∷ d ∷ ds) (d ∷ ds) (d ∷ put_condition c ds)) ≡ (p c || (p d || list_any p ds))
any_put_by p c d ds Less e sc sd h = refl
any_put_by p c d ds Equal e sc sd h =
    let same : c ≡ d = same_exact c d sc sd (ap (λ o. match_ordering o false true false) e) in
    or_itself (p d) (list_any p ds) ∙ ap (λ x. p x || (p d || list_any p ds)) (sym same)
any_put_by p c d ds Greater e sc sd h = ap (λ b. p d || b) h ∙ or_swap (p d) (p c) (list_any p ds)

any_put : (p : Condition → Bool) (c : Condition) (ds : List Condition) → Scalar c → Scalars ds → list_any p (put_condition c ds) ≡ (p c || list_any p ds)
any_put p c [] sc s = refl
any_put p c (d ∷ ds) sc s =
    any_put_by p c d ds (condition_cmp c d) refl sc (left (is_scalar_condition d) (list_all is_scalar_condition ds) s)
    (any_put p c ds sc (right (is_scalar_condition d) (list_all is_scalar_condition ds) s))

canonical_any : (p : Condition → Bool) (cs : List Condition) → Scalars cs → list_any p (canonical cs) ≡ list_any p cs
canonical_any p [] s = refl
canonical_any p (c ∷ cs) s =
    let rest : Scalars cs = right (is_scalar_condition c) (list_all is_scalar_condition cs) s in
    any_put p c (canonical cs) (left (is_scalar_condition c) (list_all is_scalar_condition cs) s) (canonical_all is_scalar_condition cs rest)
    ∙ ap (λ b. p c || b) (canonical_any p cs rest)

-- ---- met keys

met_by : (KeyDecl → Bool) → List KeyDecl → Bool
met_by has keys = list_all (λ key. not (is_required key) || has key) keys && (not (list_any is_any_of keys) || list_any (λ key. is_any_of key && has key) keys)

same_met : (keys : List KeyDecl) (cs ds : List Condition) → ((key : KeyDecl) → has_condition cs key ≡ has_condition ds key) → is_met keys cs ≡ is_met keys ds
unfolding met_by
same_met keys cs ds h = ap (λ has. met_by has keys) (λ i key. h key i)

-- ---- the conditions of a scan

record Good (s : PlanSource) (cs : List Condition) : Type 0 where
  sent : list_all (is_sent s.keys) cs ≡ true
  named : list_all (λ c. has_name s.columns c.column) cs ≡ true
  met : is_met s.keys cs ≡ true

abbrev EachGood : PlanSource → List (List Condition) → Type 0
EachGood s [] = Unit {0}
EachGood s (cs ∷ each) = Good s cs × EachGood s each

abbrev is_scan_of : PlanSource → UnitScan → Bool
is_scan_of s u =
    has_name s.connections u.connection
    && (is_canonical u.conditions
    && (list_all (is_sent s.keys) u.conditions
    && (list_all (λ c. has_name s.columns c.column) u.conditions
    && is_met s.keys u.conditions)))

abbrev canonical_scan : List ℕ → List Condition → UnitScan
canonical_scan connection cs = record { connection = connection; conditions = canonical cs }

is_good : (s : PlanSource) (connection : List ℕ) (cs : List Condition) → has_name s.connections connection ≡ true → Scalars cs → Good s cs → is_scan_of s (canonical_scan connection cs) ≡ true
is_good s connection cs h scalars g =
    let ds : List Condition = canonical cs in
    let met : is_met s.keys ds ≡ true = same_met s.keys ds cs (λ key. canonical_any (is_on key) cs scalars) ∙ g.met in
    and_from _ _ h (and_from _ _ (canonical_is cs scalars) (and_from _ _ (canonical_all (is_sent s.keys) cs g.sent) (and_from _ _ (canonical_all (λ c. has_name s.columns c.column) cs g.named) met)))

abbrev scans_by : Bool → List ℕ → List Condition → List (List Condition) → List UnitScan
scans_by b connection cs each = map unit_scan (cons_option (if b then Some (record { connection = connection; conditions = canonical cs }) else None) (filter_map (unit_of_sent connection) each))

one_more : (s : PlanSource) (connection : List ℕ) (cs : List Condition) (each : List (List Condition)) (b : Bool) → (list_all is_scalar_condition cs && all_agree cs) ≡ b
    → has_name s.connections connection ≡ true → Good s cs → list_all (is_scan_of s) (scans_under connection each) ≡ true → list_all (is_scan_of s) (scans_by b connection cs each) ≡ true
one_more s connection cs each true e h g k = and_from _ _ (is_good s connection cs h (left (list_all is_scalar_condition cs) (all_agree cs) e) g) k
one_more s connection cs each false e h g k = k

all_under : (s : PlanSource) (connection : List ℕ) (each : List (List Condition)) → has_name s.connections connection ≡ true → EachGood s each → list_all (is_scan_of s) (scans_under connection each) ≡ true
all_under s connection [] h g = refl
all_under s connection (cs ∷ each) h g = one_more s connection cs each (list_all is_scalar_condition cs && all_agree cs) refl h g.0 (all_under s connection each h g.1)

-- ---- a left row

anywhere : (p : Condition → Bool) (row : List Cell) (cs : List PlanCondition) → ((c : PlanCondition) → p (condition_at row c) ≡ p (condition_at [] c))
    → list_all p (map (condition_at row) cs) ≡ list_all p (conditions_of cs)
anywhere p row [] h = refl
anywhere p row (c ∷ cs) h = ap (λ b. b && list_all p (map (condition_at row) cs)) (h c) ∙ ap (λ b. p (condition_at [] c) && b) (anywhere p row cs h)

on_anywhere : (key : KeyDecl) (row : List Cell) (cs : List PlanCondition) → has_condition (map (condition_at row) cs) key ≡ has_condition (conditions_of cs) key
on_anywhere key row [] = refl
on_anywhere key row (c ∷ cs) = ap (λ b. is_on key (condition_at [] c) || b) (on_anywhere key row cs)

module _ (s : PlanSource) (p : IsPlanned s) (row : List Cell) where
  abbrev at : List Condition
  at = map (condition_at row) s.conditions

  all_sent : list_all (is_sent s.keys) at ≡ true
  all_sent = sent_anywhere s.keys row s.conditions ∙ p.sent

  all_named : list_all (λ c. has_name s.columns c.column) at ≡ true
  all_named = anywhere (λ c. has_name s.columns c.column) row s.conditions (λ c. refl) ∙ p.named

  alone : is_met s.keys (with_equals None (conditions_of s.conditions)) ≡ true → Good s at
  alone met = record { sent = all_sent; named = all_named; met = same_met s.keys at (conditions_of s.conditions) (λ key. on_anywhere key row s.conditions) ∙ met }

  with_one : (column : List ℕ) (x : Cell) → is_sent s.keys (equals column) ≡ true → has_name s.columns column ≡ true
      → is_met s.keys (with_equals (Some column) (conditions_of s.conditions)) ≡ true → Good s (with_value column at x)
  with_one column x sent named met = record {
    sent = and_from (is_sent s.keys (equals column)) (list_all (is_sent s.keys) at) sent all_sent;
    named = and_from (has_name s.columns column) (list_all (λ c. has_name s.columns c.column) at) named all_named;
    met = same_met s.keys (with_value column at x) (equals column ∷ conditions_of s.conditions) (λ key. ap (λ b. is_on key (equals column) || b) (on_anywhere key row s.conditions)) ∙ met;
  }

  each_value : (column : List ℕ) (xs : List Cell) → is_sent s.keys (equals column) ≡ true → has_name s.columns column ≡ true
      → is_met s.keys (with_equals (Some column) (conditions_of s.conditions)) ≡ true → EachGood s (map (with_value column at) xs)
  each_value column [] sent named met = tt
  each_value column (x ∷ xs) sent named met = (with_one column x sent named met, each_value column xs sent named met)

  each_good : (fan : Option Fan) → IsFan s.keys s.columns fan → is_met s.keys (with_equals (fan_column fan) (conditions_of s.conditions)) ≡ true → EachGood s (with_fan fan at)
  each_good None f met = (alone met, tt)
  each_good (Some fan) f met = each_value fan.column fan.values f.sent f.named met

  all_from : (before connections : List (List ℕ)) → s.connections ≡ before ++ connections → list_all (is_scan_of s) (flat_map (scans_at s row) connections) ≡ true
  all_from before [] e = refl
  all_from before (c ∷ cs) e =
      let there : has_name s.connections c ≡ true = ap (λ names. has_name names c) e ∙ any_there (bytes_eq c) before c cs (bytes_itself c) in
      list_all-append (is_scan_of s) (scans_at s row c) (flat_map (scans_at s row) cs)
      ∙ and_from (list_all (is_scan_of s) (scans_at s row c)) (list_all (is_scan_of s) (flat_map (scans_at s row) cs)) (all_under s c (with_fan s.fan at) there (each_good s.fan p.fan p.met))
      (all_from (before ++ c ∷ []) cs (e ∙ sym (append_assoc before (c ∷ []) cs)))

  all_at : list_all (is_scan_of s) (units_at s row) ≡ true
  all_at = ap (list_all (is_scan_of s)) (sym (scans_are_units s row p)) ∙ all_from [] s.connections refl

-- ---- all left rows

all_with_by : {X : Type 0} (q : X → Bool) (found : List X) (x : X) (b : Bool) → list_all q found ≡ true → q x ≡ true → list_all q (cond b found (found ++ x ∷ [])) ≡ true
all_with_by q found x true h k = h
all_with_by q found x false h k = list_all-append q found (x ∷ []) ∙ and_from (list_all q found) (q x && true) h (and_from (q x) true k refl)

all_once : (q : UnitScan → Bool) (found us : List UnitScan) → list_all q found ≡ true → list_all q us ≡ true → list_all q (each_once found us) ≡ true
all_once q found [] h k = h
all_once q found (u ∷ us) h k =
    all_once q (with_unit found u) us (all_with_by q found u (list_any (same_unit u) found) h (left (q u) (list_all q us) k)) (right (q u) (list_all q us) k)

all_rows : (s : PlanSource) → IsPlanned s → (rows : List (List Cell)) → list_all (is_scan_of s) (flat_map (units_at s) rows) ≡ true
all_rows s p [] = refl
all_rows s p (row ∷ rows) =
    list_all-append (is_scan_of s) (units_at s row) (flat_map (units_at s) rows)
    ∙ and_from (list_all (is_scan_of s) (units_at s row)) (list_all (is_scan_of s) (flat_map (units_at s) rows)) (all_at s p row) (all_rows s p rows)

all_found : (s : PlanSource) → IsPlanned s → (left : List (List Cell)) → list_all (is_scan_of s) (units_of s left) ≡ true
unfolding units_of
all_found s p left = all_once (is_scan_of s) [] (flat_map (units_at s) left) refl (all_rows s p left)

-- ---- requests

sent_by : (s : PlanSource) (u : UnitScan) (keys : Option (List KeyDecl)) → keys ≡ Some s.keys
    → (is_canonical u.conditions && list_all (is_sent s.keys) u.conditions && list_all (λ c. has_name s.columns c.column) u.conditions) ≡ true
    → are_sent keys (unlimited (request_of s u)) ≡ true
unfolding are_sent
sent_by s u keys e h = ap (λ k. are_sent k (unlimited (request_of s u))) e ∙ h

made_by : (s : PlanSource) → IsPlanned s → (u : UnitScan) → is_scan_of s u ≡ true → IsMadeBy s (request_of s u)
made_by s p u h =
    let a : Bool = has_name s.connections u.connection in
    let b : Bool = is_canonical u.conditions in
    let d : Bool = list_all (is_sent s.keys) u.conditions in
    let e : Bool = list_all (λ c. has_name s.columns c.column) u.conditions in
    let f : Bool = is_met s.keys u.conditions in
    let h1 : (b && (d && (e && f))) ≡ true = right a (b && (d && (e && f))) h in
    let h2 : (d && (e && f)) ≡ true = right b (d && (e && f)) h1 in
    let h3 : (e && f) ≡ true = right d (e && f) h2 in
    record {
      request = record {
        name = refl;
        columns = p.columns;
        sent = sent_by s u (keys_for (arc_value s.table) s.access) p.keys (and_from (b && d) e (and_from b d (left b (d && (e && f)) h1) (left d (e && f) h2)) (left e f h3));
        subset = p.subset;
        limit = refl;
      };
      connection = left a (b && (d && (e && f))) h;
      access = refl;
      met = right e f h3;
    }

made_each : (s : PlanSource) → IsPlanned s → (us : List UnitScan) → list_all (is_scan_of s) us ≡ true → All (IsMadeBy s) (map (request_of s) us)
made_each s p [] h = All-nil (IsMadeBy s)
made_each s p (u ∷ us) h =
    All-cons (IsMadeBy s) (request_of s u) (map (request_of s) us) (made_by s p u (left (is_scan_of s u) (list_all (is_scan_of s) us) h))
    (made_each s p us (right (is_scan_of s u) (list_all (is_scan_of s) us) h))

pub requests_are_made : (s : PlanSource) → IsPlanned s → (left : List (List Cell)) → All (IsMadeBy s) (requests_of s left)
unfolding requests_of
requests_are_made s p left = made_each s p (units_of s left) (all_found s p left)
