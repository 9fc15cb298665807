-- A kept scan that covers a request has its rows.
use Rattle.std.proofs.Common.{◌≡◌, ℕ, Bool, true, false, ◌&&◌, ◌||◌, not, List, [], filter, Option, Some, None, is_some, bytes_eq, refl, sym, ap, subst, ◌∙◌}
use Rattle.std.proofs.lemmas.Bool.{false≢true, not-true}
use Rattle.std.specs.List.{list_all}
use Rattle.sp_value.specs.declared.cell.Cell.{Cell}
use Rattle.sp_model.specs.Requests.{is_positive}
use Rattle.sp_model.specs.Names.{are_distinct}
use Rattle.sp_model.specs.Book.{Book}
use Rattle.sp_model.specs.Conditions.{is_canonical}
use Rattle.sp_model.specs.Covers.{is_get, same_access, is_among, same_conditions, reaches, further, covers_same, covers_more, covers, rows_from, in_columns}
use Rattle.sp_model.specs.Calls.{fit_keys, same_presence}
use Rattle.sp_model.specs.Keys.{is_sent, is_met, list_access}
use Rattle.sp_model.specs.RowOf.{has_name, columns_named, names_of_columns}
use Rattle.sp_model.specs.Settling.{Answers, answers_of}
use Rattle.sp_model.specs.SubsetKeys.{is_on_subset_key, list_key, SubsetKeysOnlyFilter}
use Rattle.sp_model.specs.Walk.{meets, scan_walk, walk_at, walk_value, scan_value, is_complete, is_steady}
use Rattle.sp_model.specs.declared.call.Call.{Call}
use Rattle.sp_model.specs.declared.call.Call.TheVariants as call
use Rattle.sp_model.specs.declared.call.Condition.{Condition}
use Rattle.sp_model.specs.declared.call.Reply.{Reply}
use Rattle.sp_model.specs.declared.declaration.AccessDecl.{AccessDecl}
use Rattle.sp_model.specs.declared.declaration.ListDecl.{ListDecl}
use Rattle.sp_model.specs.declared.declaration.TableDecl.{TableDecl}
use Rattle.sp_model.specs.declared.outcome.ScanValue.TheVariants.{Rows}
use Rattle.sp_model.specs.declared.outcome.Walk.{Walk}
use Rattle.sp_model.specs.declared.scan.Access.{Access}
use Rattle.sp_model.specs.declared.scan.Access.TheVariants.{Get, List as OfList, Parents}
use Rattle.sp_model.specs.declared.scan.ScanRequest.{ScanRequest}
use Rattle.model_laws.specs.Covered.{is_asked_of, only_filters, is_asked_of_list, OnlyFilters, CoveredScanGivesTheRows}
use Rattle.model_laws.proofs.Covering.{fits_access, Asked, Covering, covering_value, is_field}
use Rattle.model_laws.proofs.FewerColumns.{bytes_same}
use Rattle.model_laws.proofs.Filtering.{filter_all, all_from, name_all, sent_on_subset, only_subset, reply_filtered}
use Rattle.model_laws.specs.FilteringBooks.{hold_of}
use Rattle.model_laws.proofs.Merging.{left, right, Canonical, all_scalar, all_filter, rest_none, merge, put_all, is_scalar_condition}
use Rattle.model_laws.proofs.Simulating.{Plain}

access_same : (a b : Access) → same_access a b ≡ true → a ≡ b
access_same Get Get h = refl
access_same OfList OfList h = refl
access_same Parents Parents h = refl
access_same Get OfList h = absurd (false≢true h)
access_same Get Parents h = absurd (false≢true h)
access_same OfList Get h = absurd (false≢true h)
access_same OfList Parents h = absurd (false≢true h)
access_same Parents Get h = absurd (false≢true h)
access_same Parents OfList h = absurd (false≢true h)

fits_list : (o : Option AccessDecl) (parent : Option Cell) → fits_access (list_access o) parent ≡ true → same_presence (is_some parent) (is_some o) ≡ true
fits_list None None h = refl
fits_list None (Some parent) h = absurd (false≢true h)
fits_list (Some d) None h = absurd (false≢true h)
fits_list (Some d) (Some parent) h = refl

module _ (book : Book) (table : TableDecl) (kept request : ScanRequest) (version : ℕ) where
  abbrev answers : Answers
  answers = answers_of book kept.connection version

  abbrev more : List Condition
  more = further kept request

  abbrev scan : Walk
  scan = scan_walk table kept answers

  abbrev is_asked_on : ScanRequest → Bool
  is_asked_on r = list_all (λ condition. has_name (names_of_columns (columns_named r.columns table.columns)) condition.column) r.conditions

  canonical_of : (r : ScanRequest) → is_asked_of table r ≡ true → Canonical r.conditions
  canonical_of r h = left (is_canonical r.conditions) (is_asked_on r) (left (is_canonical r.conditions && is_asked_on r) (is_positive r.limit) h)

  named_of : (r : ScanRequest) → is_asked_of table r ≡ true → is_asked_on r ≡ true
  named_of r h = right (is_canonical r.conditions) (is_asked_on r) (left (is_canonical r.conditions && is_asked_on r) (is_positive r.limit) h)

  abbrev shows_field : Condition → Bool
  shows_field condition = is_field table.columns condition.column

  -- what the two cases of covering share
  record Case : Type 0 where
    among : list_all (is_among request.conditions) kept.conditions ≡ true
    fields : list_all shows_field more ≡ true
    lists : (parent : Option Cell) → fits_access request.access parent ≡ true → Asked table kept request answers (call.List table.name kept.conditions parent) (call.List table.name request.conditions parent)
    gets : is_get request.access ≡ true → Asked table kept request answers (call.Get table.name kept.conditions) (call.Get table.name request.conditions)
    plain : is_complete scan ≡ false → Plain (in_columns (columns_named kept.columns table.columns) (columns_named request.columns table.columns)) (meets more (columns_named request.columns table.columns)) kept.limit request.limit

  -- ---- the conditions are the same

  same_asked : more ≡ [] → kept.conditions ≡ request.conditions → (make : List Condition → Call) → Asked table kept request answers (make kept.conditions) (make request.conditions)
  same_asked none same make = record {
    items = ap (λ cs. (answers (make cs) 1).items) (sym same) ∙ sym (filter_all (answers (make kept.conditions) 1).items)
        ∙ ap (λ fs. filter (hold_of table.columns fs) (answers (make kept.conditions) 1).items) (sym none);
    ending = ap (λ cs. (answers (make cs) 1).ending) (sym same);
  }

  same_case : is_asked_of table kept ≡ true → is_asked_of table request ≡ true → covers_same kept (is_complete scan) request ≡ true → Case
  same_case ask ask' h =
      let conditions : same_conditions kept.conditions request.conditions ≡ true = left (same_conditions kept.conditions request.conditions) (is_complete scan || reaches kept.limit request.limit) h in
      let limits : (is_complete scan || reaches kept.limit request.limit) ≡ true = right (same_conditions kept.conditions request.conditions) (is_complete scan || reaches kept.limit request.limit) h in
      let among : list_all (is_among request.conditions) kept.conditions ≡ true = left (list_all (is_among request.conditions) kept.conditions) (list_all (is_among kept.conditions) request.conditions) conditions in
      let back : list_all (is_among kept.conditions) request.conditions ≡ true = right (list_all (is_among request.conditions) kept.conditions) (list_all (is_among kept.conditions) request.conditions) conditions in
      let none : more ≡ [] = rest_none kept.conditions request.conditions back in
      let merged : put_all more kept.conditions ≡ request.conditions = merge request.conditions kept.conditions (canonical_of request ask') (canonical_of kept ask) among in
      let same : kept.conditions ≡ request.conditions = sym (ap (λ fs. put_all fs kept.conditions) none) ∙ merged in
      record {
        among = among;
        fields = ap (list_all shows_field) none;
        lists = λ parent fits. same_asked none same (λ cs. call.List table.name cs parent);
        gets = λ g. same_asked none same (λ cs. call.Get table.name cs);
        plain = λ e. record {
          all = λ cells. ap (λ fs. meets fs (columns_named request.columns table.columns) cells) none;
          reach = ap (λ b. b || reaches kept.limit request.limit) (sym e) ∙ limits;
        };
      }

  -- ---- further conditions, on keys that only filter

  abbrev is_named_subset : Condition → Bool
  is_named_subset condition = has_name request.subset condition.column

  record More : Type 0 where
    fields : list_all shows_field more ≡ true
    lists : (parent : Option Cell) → fits_access request.access parent ≡ true → Asked table kept request answers (call.List table.name kept.conditions parent) (call.List table.name request.conditions parent)

  asked_from : (parent : Option Cell) → book.reply (list_key kept.connection version table.name parent 1 request.conditions)
      ≡ record { items = filter (hold_of table.columns more) (book.reply (list_key kept.connection version table.name parent 1 kept.conditions)).items; ending = (book.reply (list_key kept.connection version table.name parent 1 kept.conditions)).ending }
      → Asked table kept request answers (call.List table.name kept.conditions parent) (call.List table.name request.conditions parent)
  asked_from parent e =
      let items_of : Reply → List Cell = λ r. r.items in
      record { items = ap items_of e; ending = ap (λ (r : Reply). Some r.ending) e }

  abbrev by_list : ListDecl → ScanRequest → Bool
  by_list d r = same_access r.access (list_access d.parent)

  keys_of : (d : ListDecl) (r : ScanRequest) → is_asked_of_list table d r ≡ true → fit_keys d.keys r.conditions ≡ true
  keys_of d r h = right (by_list d r) (fit_keys d.keys r.conditions) (left (by_list d r && fit_keys d.keys r.conditions) (list_all (only_filters table d) r.subset) h)

  more_of : (l : Option ListDecl) → kept.connection ≡ request.connection → OnlyFilters book table kept request l → Canonical kept.conditions → Canonical request.conditions
      → list_all (is_among request.conditions) kept.conditions ≡ true → list_all is_named_subset more ≡ true → More
  more_of None connection o canon canon' among named = absurd o
  more_of (Some d) connection o canon canon' among named =
      let lists : (is_asked_of_list table d kept && is_asked_of_list table d request) ≡ true = o.1 in
      let first : is_asked_of_list table d kept ≡ true = left (is_asked_of_list table d kept) (is_asked_of_list table d request) lists in
      let second : is_asked_of_list table d request ≡ true = right (is_asked_of_list table d kept) (is_asked_of_list table d request) lists in
      let fit : fit_keys d.keys kept.conditions ≡ true = keys_of d kept first in
      let fit' : fit_keys d.keys request.conditions ≡ true = keys_of d request second in
      let sent' : list_all (is_sent d.keys) request.conditions ≡ true =
      right (is_canonical request.conditions) (list_all (is_sent d.keys) request.conditions)
      (left (is_canonical request.conditions && list_all (is_sent d.keys) request.conditions) (is_met d.keys request.conditions) fit') in
      let only : list_all (only_filters table d) request.subset ≡ true = right (by_list d request && fit_keys d.keys request.conditions) (list_all (only_filters table d) request.subset) second in
      let access : request.access ≡ list_access d.parent =
      access_same request.access (list_access d.parent) (left (by_list d request) (fit_keys d.keys request.conditions) (left (by_list d request && fit_keys d.keys request.conditions) (list_all (only_filters table d) request.subset) second)) in
      let left_out : Condition → Bool = λ k. not (is_among kept.conditions k) in
      let only_filters_on : Condition → Bool = λ k. only_filters table d k.column in
      let more_sent : list_all (is_sent d.keys) more ≡ true = all_filter (is_sent d.keys) (λ k. not (is_among kept.conditions k)) request.conditions sent' in
      let more_scalar : list_all is_scalar_condition more ≡ true = all_filter is_scalar_condition (λ k. not (is_among kept.conditions k)) request.conditions (all_scalar request.conditions canon') in
      let more_only : list_all (λ (k : Condition). only_filters table d k.column) more ≡ true =
      all_from is_named_subset is_named_subset (λ (k : Condition). only_filters table d k.column) (λ k h i. name_all (only_filters table d) request.subset k.column only h) more named named in
      let more_subset : list_all (is_on_subset_key d.keys) more ≡ true =
      all_from (λ (k : Condition). only_filters table d k.column) (is_sent d.keys) (is_on_subset_key d.keys)
      (λ k h i. sent_on_subset d.keys k (left (list_all (only_subset k.column) d.keys) (is_field table.columns k.column) h) i) more more_only more_sent in
      let more_fields : list_all shows_field more ≡ true =
      all_from (λ (k : Condition). only_filters table d k.column) is_named_subset shows_field (λ k h i. right (list_all (only_subset k.column) d.keys) (is_field table.columns k.column) h) more more_only named in
      let filters : SubsetKeysOnlyFilter book kept.connection table d = subst (λ name. SubsetKeysOnlyFilter book name table d) (sym connection) o.0 in
      let merged : put_all more kept.conditions ≡ request.conditions = merge request.conditions kept.conditions canon' canon among in
      record {
        fields = more_fields;
        lists = λ parent fits. asked_from parent
            (ap (λ cs. book.reply (list_key kept.connection version table.name parent 1 cs)) (sym merged)
            ∙ reply_filtered book kept.connection table d filters version parent kept.conditions fit (fits_list d.parent parent (subst (λ a. fits_access a parent ≡ true) access fits)) more more_scalar more_sent more_subset);
      }

  get_not : (b : Bool) → b ≡ false → b ≡ true → ⊥
  get_not b e h = false≢true (sym e ∙ h)

  more_case : kept.connection ≡ request.connection → kept.access ≡ request.access → is_asked_of table kept ≡ true → is_asked_of table request ≡ true
      → (is_get request.access ≡ false → OnlyFilters book table kept request table.list) → covers_more kept (is_complete scan) request ≡ true → Case
  more_case connection access ask ask' only h =
      let named : list_all is_named_subset more ≡ true = right (is_complete scan && not (is_get kept.access) && list_all (is_among request.conditions) kept.conditions) (list_all is_named_subset more) h in
      let first = left (is_complete scan && not (is_get kept.access) && list_all (is_among request.conditions) kept.conditions) (list_all is_named_subset more) h in
      let among : list_all (is_among request.conditions) kept.conditions ≡ true = right (is_complete scan && not (is_get kept.access)) (list_all (is_among request.conditions) kept.conditions) first in
      let second = left (is_complete scan && not (is_get kept.access)) (list_all (is_among request.conditions) kept.conditions) first in
      let complete : is_complete scan ≡ true = left (is_complete scan) (not (is_get kept.access)) second in
      let no_get : is_get request.access ≡ false = ap is_get (sym access) ∙ not-true (is_get kept.access) (right (is_complete scan) (not (is_get kept.access)) second) in
      let facts : More = more_of table.list connection (only no_get) (canonical_of kept ask) (canonical_of request ask') among named in
      record {
        among = among;
        fields = facts.fields;
        lists = facts.lists;
        gets = λ g. absurd (get_not (is_get request.access) no_get g);
        plain = λ e. absurd (get_not (is_complete scan) e complete);
      }

  case_by : (b : Bool) → covers_same kept (is_complete scan) request ≡ b → kept.connection ≡ request.connection → kept.access ≡ request.access → is_asked_of table kept ≡ true → is_asked_of table request ≡ true
      → (is_get request.access ≡ false → OnlyFilters book table kept request table.list) → (b || covers_more kept (is_complete scan) request) ≡ true → Case
  case_by true e connection access ask ask' only h = same_case ask ask' e
  case_by false e connection access ask ask' only h = more_case connection access ask ask' only h

  value_of : (rows : List (List Cell)) → Case → are_distinct (names_of_columns table.columns) ≡ true → list_all (has_name kept.columns) request.columns ≡ true → kept.access ≡ request.access
      → is_asked_of table kept ≡ true → is_asked_of table request ≡ true → is_steady scan ≡ true → walk_value scan ≡ Some (Rows rows)
      → walk_value (scan_walk table request answers) ≡ Some (Rows (rows_from table kept rows request))
  unfolding rows_from
  value_of rows k distinct fewer access ask ask' steady value =
      let covering : Covering table kept request answers = record {
        distinct = distinct;
        fewer = fewer;
        scalars = all_scalar request.conditions (canonical_of request ask');
        kept_scalars = all_scalar kept.conditions (canonical_of kept ask);
        among = k.among;
        named = named_of request ask';
        fields = k.fields;
        lists = k.lists;
        gets = k.gets;
        positive = right (is_canonical request.conditions && is_asked_on request) (is_positive request.limit) ask';
      } in
      covering_value table kept request answers covering rows access steady k.plain value

pub covered : CoveredScanGivesTheRows
unfolding walk_at scan_value covers rows_from
covered book table kept request version rows distinct asked only steady covers value =
    let complete : Bool = is_complete (scan_walk table kept (answers_of book kept.connection version)) in
    let a : Bool = bytes_eq kept.connection request.connection in
    let b : Bool = bytes_eq kept.table request.table in
    let c : Bool = same_access kept.access request.access in
    let d : Bool = list_all (has_name kept.columns) request.columns in
    let e : Bool = covers_same kept complete request || covers_more kept complete request in
    let abcd : (a && b && c && d) ≡ true = left (a && b && c && d) e covers in
    let abc : (a && b && c) ≡ true = left (a && b && c) d abcd in
    let connection : kept.connection ≡ request.connection = bytes_same kept.connection request.connection (left a b (left (a && b) c abc)) in
    let access : kept.access ≡ request.access = access_same kept.access request.access (right (a && b) c abc) in
    let ask : is_asked_of table kept ≡ true = left (is_asked_of table kept) (is_asked_of table request) asked in
    let ask' : is_asked_of table request ≡ true = right (is_asked_of table kept) (is_asked_of table request) asked in
    let k : Case book table kept request version = case_by book table kept request version (covers_same kept complete request) refl connection access ask ask' only (right (a && b && c && d) e covers) in
    subst (λ name. walk_value (scan_walk table request (answers_of book name version)) ≡ Some (Rows (rows_from table kept rows request))) connection
    (value_of book table kept request version rows k distinct (right (a && b && c) d abcd) access ask ask' steady value)
