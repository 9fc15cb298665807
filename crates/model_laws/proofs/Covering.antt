-- The walk of a request that a kept scan covers.
use Rattle.std.proofs.Common.{◌≡◌, ℕ, suc, ◌-◌, ◌≤◌, Bool, true, false, ◌&&◌, ◌||◌, not, List, [], ◌∷◌, ◌++◌, map, filter, Option, Some, None, is_none, if◌then◌else◌, bytes_eq, refl, sym, ap, subst, ◌∙◌, arith}
use Rattle.std.proofs.lemmas.Bool.{false≢true, leb-true, lt-leb}
use Rattle.std.proofs.lemmas.List.{append-nil}
use Rattle.std.specs.List.{list_all}
use Rattle.sp_value.specs.Truth.{truth}
use Rattle.sp_value.specs.declared.cell.Cell.{Cell}
use Rattle.sp_model.specs.Requests.{is_positive}
use Rattle.sp_model.specs.Names.{are_distinct}
use Rattle.sp_model.specs.Covers.{is_get, is_among, further, in_columns, cut}
use Rattle.sp_model.specs.Fields.{field}
use Rattle.sp_model.specs.Hydration.{hydrated}
use Rattle.sp_model.specs.RowOf.{has_name, columns_named, row_of, names_of_columns}
use Rattle.sp_model.specs.Settling.{Seen, Answers, attempts_of}
use Rattle.sp_model.specs.SubsetKeys.{field_named}
use Rattle.sp_model.specs.Walk.{start, is_yes, cell_of, meets, is_reached, with_row_kept, with_row, visit_item, Source, walk, list_source, get_source, parent_source, parent_of, visit_parent, walk_by, walk_value, is_complete, is_steady}
use Rattle.sp_model.specs.declared.call.Call.{Call}
use Rattle.sp_model.specs.declared.call.Call.TheVariants as call
use Rattle.sp_model.specs.declared.call.Condition.{Condition}
use Rattle.sp_model.specs.declared.declaration.ColumnDecl.{ColumnDecl}
use Rattle.sp_model.specs.declared.declaration.TableDecl.{TableDecl}
use Rattle.sp_model.specs.declared.outcome.Row.{Row}
use Rattle.sp_model.specs.declared.outcome.Row.TheVariants.{Whole, Broken}
use Rattle.sp_model.specs.declared.outcome.ScanValue.TheVariants.{Rows}
use Rattle.sp_model.specs.declared.outcome.Walk.{Walk}
use Rattle.sp_model.specs.declared.outcome.Walk.TheVariants.{Going, Full, Failed, Waiting}
use Rattle.sp_model.specs.declared.outcome.WalkState.{WalkState}
use Rattle.sp_model.specs.declared.scan.Access.{Access}
use Rattle.sp_model.specs.declared.scan.Access.TheVariants.{Get, List as OfList, Parents}
use Rattle.sp_model.specs.declared.scan.ScanRequest.{ScanRequest}
use Rattle.model_laws.proofs.FewerColumns.{row_fewer, cell_is_field, name_in_more, cell_in, names_in}
use Rattle.model_laws.proofs.Filtering.{filter_all}
use Rattle.model_laws.specs.FilteringBooks.{hold_of}
use Rattle.model_laws.proofs.Growing.{Grows, row_grows, walk_grows}
use Rattle.model_laws.proofs.Merging.{left, right, Scalars, all_of_among, all_split, all_filter}
use Rattle.model_laws.proofs.Simulating.{Plain, Same, GoesSo, EndsSo, Follows, walk_follows, row_follows, row_past, cut_none}

all_same_on : {X : Type 0} (p q r : X → Bool) → ((x : X) → r x ≡ true → p x ≡ q x) → (xs : List X) → list_all r xs ≡ true → list_all p xs ≡ list_all q xs
all_same_on p q r f [] h = refl
all_same_on p q r f (x ∷ xs) h =
    ap (λ b. b && list_all p xs) (f x (left (r x) (list_all r xs) h)) ∙ ap (λ b. q x && b) (all_same_on p q r f xs (right (r x) (list_all r xs) h))

all_same_both : {X : Type 0} (p q r t : X → Bool) → ((x : X) → r x ≡ true → t x ≡ true → p x ≡ q x) → (xs : List X) → list_all r xs ≡ true → list_all t xs ≡ true → list_all p xs ≡ list_all q xs
all_same_both p q r t f [] h k = refl
all_same_both p q r t f (x ∷ xs) h k =
    ap (λ b. b && list_all p xs) (f x (left (r x) (list_all r xs) h) (left (t x) (list_all t xs) k))
    ∙ ap (λ b. q x && b) (all_same_both p q r t f xs (right (r x) (list_all r xs) h) (right (t x) (list_all t xs) k))

abbrev holds_in : List ColumnDecl → List Cell → Condition → Bool
holds_in columns cells condition = is_yes (truth condition.operator (cell_of columns cells condition.column) condition.value)

-- a column that no function gives
abbrev pub is_field : List ColumnDecl → List ℕ → Bool
is_field columns name = list_all (λ column. not (bytes_eq column.name name) || is_none column.function) columns

-- a list has no parent, and the list of a parent has one
abbrev pub fits_access : Access → Option Cell → Bool
fits_access OfList None = true
fits_access Parents (Some parent) = true
fits_access _ _ = false

module _ (table : TableDecl) (kept request : ScanRequest) (answers : Answers) where
  abbrev from : List ColumnDecl
  from = columns_named kept.columns table.columns

  abbrev to : List ColumnDecl
  to = columns_named request.columns table.columns

  abbrev more : List Condition
  more = further kept request

  abbrev shown : List Cell → List Cell
  shown cells = in_columns from to cells

  abbrev keep : List Cell → Bool
  keep cells = meets more to cells

  abbrev test : Cell → Bool
  test item = hold_of table.columns more item

  abbrev pub has_column : Condition → Bool
  has_column condition = has_name (names_of_columns to) condition.column

  abbrev shows_field : Condition → Bool
  shows_field condition = is_field table.columns condition.column

  -- the request's reply is the kept scan's, less the items for which a further condition isn't true
  pub record Asked (first second : Call) : Type 0 where
    pub items : (answers second 1).items ≡ filter test (answers first 1).items
    pub ending : (answers second 1).ending ≡ (answers first 1).ending

  pub record Covering : Type 0 where
    pub distinct : are_distinct (names_of_columns table.columns) ≡ true
    pub fewer : list_all (has_name kept.columns) request.columns ≡ true
    pub scalars : Scalars request.conditions
    pub kept_scalars : Scalars kept.conditions
    pub among : list_all (is_among request.conditions) kept.conditions ≡ true
    pub named : list_all has_column request.conditions ≡ true
    pub fields : list_all shows_field more ≡ true
    pub lists : (parent : Option Cell) → fits_access request.access parent ≡ true → Asked (call.List table.name kept.conditions parent) (call.List table.name request.conditions parent)
    pub gets : is_get request.access ≡ true → Asked (call.Get table.name kept.conditions) (call.Get table.name request.conditions)
    pub positive : is_positive request.limit ≡ true

  module _ (c : Covering) where
    fewer_name : (name : List ℕ) → has_name request.columns name ≡ true → has_name kept.columns name ≡ true
    fewer_name name h = names_in request.columns kept.columns name c.fewer h

    -- ---- one item

    module _ (item : Cell) (cells : List Cell) (row : row_of (hydrated table answers item) from item ≡ Some (Whole cells)) where
      other_row : row_of (hydrated table answers item) to item ≡ Some (Whole (shown cells))
      other_row = row_fewer (hydrated table answers item) item (has_name kept.columns) (has_name request.columns) fewer_name table.columns cells c.distinct row

      same_cell : (name : List ℕ) → has_name (names_of_columns to) name ≡ true → cell_of to (shown cells) name ≡ cell_of from cells name
      same_cell name h = cell_in (cell_of from cells) to name h

      kept_meets : meets kept.conditions to (shown cells) ≡ meets kept.conditions from cells
      kept_meets =
          all_same_on (holds_in to (shown cells)) (holds_in from cells) has_column (λ k h. ap (λ x. is_yes (truth k.operator x k.value)) (same_cell k.column h)) kept.conditions
          (all_of_among has_column request.conditions kept.conditions c.scalars c.kept_scalars c.among c.named)

      more_named : list_all has_column more ≡ true
      more_named = all_filter has_column (λ k. not (is_among kept.conditions k)) request.conditions c.named

      keep_is : keep (shown cells) ≡ test item
      keep_is =
          all_same_both (holds_in to (shown cells)) (λ k. is_yes (truth k.operator (field (field_named table.columns k.column) item) k.value)) has_column shows_field
          (λ k h f. ap (λ x. is_yes (truth k.operator x k.value))
          (same_cell k.column h ∙ cell_is_field (hydrated table answers item) item (has_name kept.columns) table.columns cells k.column c.distinct row
          (name_in_more (hydrated table answers item) item (has_name kept.columns) (has_name request.columns) fewer_name table.columns k.column h) f))
          more more_named c.fields

      meets_is : meets request.conditions to (shown cells) ≡ (meets kept.conditions from cells && keep (shown cells))
      meets_is = all_split (holds_in to (shown cells)) request.conditions kept.conditions c.scalars c.kept_scalars c.among ∙ ap (λ b. b && keep (shown cells)) kept_meets

    abbrev Goes : Walk → Walk → Type 0
    Goes v w = Follows shown keep kept.limit request.limit v w

    abbrev AtPart : List (List Cell) → WalkState → Type 0
    AtPart rows t = Same shown keep kept.limit request.limit rows t

    kept_by_test : (cells : List Cell) (t s : WalkState) (b b' : Bool) → b' ≡ (b && true) → keep (shown cells) ≡ true → AtPart t.rows s
        → Goes (if b then with_row_kept kept.limit (t.rows ++ cells ∷ []) t else Going (record { rows = t.rows; items = suc t.items; steady = t.steady }))
        (if b' then with_row_kept request.limit (s.rows ++ shown cells ∷ []) s else Going (record { rows = s.rows; items = suc s.items; steady = s.steady }))
    kept_by_test cells t s true true e h m = row_follows shown keep kept.limit request.limit cells t s h m
    kept_by_test cells t s true false e h m = absurd (false≢true e)
    kept_by_test cells t s false true e h m = absurd (false≢true (sym e))
    kept_by_test cells t s false false e h m = λ steady. record { rows_are = m.rows_are; below = m.below }

    past_by_test : (cells : List Cell) (t s : WalkState) (b : Bool) → keep (shown cells) ≡ false → AtPart t.rows s
        → Goes (if b then with_row_kept kept.limit (t.rows ++ cells ∷ []) t else Going (record { rows = t.rows; items = suc t.items; steady = t.steady })) (Going s)
    past_by_test cells t s true h m = row_past shown keep kept.limit request.limit cells t s h m
    past_by_test cells t s false h m = λ steady. record { rows_are = m.rows_are; below = m.below }

    here_by : (item : Cell) (t s : WalkState) (row : Option Row) → row_of (hydrated table answers item) from item ≡ row → test item ≡ true → AtPart t.rows s
        → Goes (with_row kept.conditions from kept.limit row t) (with_row request.conditions to request.limit (row_of (hydrated table answers item) to item) s)
    here_by item t s None e h m = tt
    here_by item t s (Some (Broken column cause)) e h m = tt
    here_by item t s (Some (Whole cells)) e h m =
        let kept_so : keep (shown cells) ≡ true = keep_is item cells e ∙ h in
        let first : Walk = with_row kept.conditions from kept.limit (Some (Whole cells)) t in
        let at : Goes first (with_row request.conditions to request.limit (Some (Whole (shown cells))) s) =
        kept_by_test cells t s (meets kept.conditions from cells) (meets request.conditions to (shown cells)) (meets_is item cells e ∙ ap (λ b. meets kept.conditions from cells && b) kept_so) kept_so m in
        subst (λ o. Goes first (with_row request.conditions to request.limit o s)) (sym (other_row item cells e)) at

    past_row : (item : Cell) (t s : WalkState) (row : Option Row) → row_of (hydrated table answers item) from item ≡ row → test item ≡ false → AtPart t.rows s
        → Goes (with_row kept.conditions from kept.limit row t) (Going s)
    past_row item t s None e h m = tt
    past_row item t s (Some (Broken column cause)) e h m = tt
    past_row item t s (Some (Whole cells)) e h m = past_by_test cells t s (meets kept.conditions from cells) (keep_is item cells e ∙ h) m

    -- ---- calls

    abbrev visit : Cell → WalkState → Walk
    visit item t = visit_item table kept answers item t

    abbrev other : Cell → WalkState → Walk
    other item s = visit_item table request answers item s

    item_grows : (item : Cell) (t : WalkState) → Grows t (visit item t)
    item_grows item t = row_grows kept.conditions from kept.limit (row_of (hydrated table answers item) from item) t

    call_follows : (source : Source) (first second : Call) (t s : WalkState) → Asked first second → AtPart t.rows s → Goes (walk visit source (answers first) t) (walk other source (answers second) s)
    call_follows source first second t s a m =
        walk_follows shown keep kept.limit request.limit visit other test item_grows
        (λ item u v h n. here_by item u v (row_of (hydrated table answers item) from item) refl h n)
        (λ item u v h n. past_row item u v (row_of (hydrated table answers item) from item) refl h n)
        source (answers first) (answers second) t s a.items a.ending m

    parent_grows : (parent : Cell) (t : WalkState) → Grows t (visit_parent table kept answers parent t)
    parent_grows parent t =
        let source : Source = list_source table table.list in
        walk_grows visit item_grows source (answers (call.List table.name kept.conditions (Some parent))) (suc (attempts_of source.rule.retry - 1)) 1 t

    parents_follow : (source : Source) (replies : ℕ → Seen) (t s : WalkState) → ((parent : Cell) → Asked (call.List table.name kept.conditions (Some parent)) (call.List table.name request.conditions (Some parent)))
        → AtPart t.rows s → Goes (walk (visit_parent table kept answers) source replies t) (walk (visit_parent table request answers) source replies s)
    parents_follow source replies t s lists m =
        walk_follows shown keep kept.limit request.limit (visit_parent table kept answers) (visit_parent table request answers) (λ parent. true) parent_grows
        (λ parent u v h n. call_follows (list_source table table.list) (call.List table.name kept.conditions (Some parent)) (call.List table.name request.conditions (Some parent)) u v (lists parent) n)
        (λ parent u v h n. absurd (false≢true (sym h)))
        source replies replies t s (sym (filter_all (replies 1).items)) refl m

    -- ---- the scan

    not_reached : (limit : Option ℕ) → is_positive limit ≡ true → is_reached limit 0 ≡ false
    not_reached None h = refl
    not_reached (Some limit) h = let one : 1 ≤ limit = leb-true 1 limit h in lt-leb limit 0 (omega arith)

    at_start : AtPart [] start
    at_start = record { rows_are = refl; below = not_reached request.limit c.positive }

    access_follows : (access : Access) → (is_get access ≡ true → Asked (call.Get table.name kept.conditions) (call.Get table.name request.conditions))
        → ((parent : Option Cell) → fits_access access parent ≡ true → Asked (call.List table.name kept.conditions parent) (call.List table.name request.conditions parent)) → Goes (walk_by access table kept answers) (walk_by access table request answers)
    access_follows Get gets lists = call_follows (get_source table table.get) (call.Get table.name kept.conditions) (call.Get table.name request.conditions) start start (gets refl) at_start
    access_follows OfList gets lists =
        call_follows (list_source table table.list) (call.List table.name kept.conditions None) (call.List table.name request.conditions None) start start (lists None refl) at_start
    access_follows Parents gets lists =
        parents_follow (parent_source table (parent_of table.list)) (answers (call.Parents table.name)) start start (λ parent. lists (Some parent) refl) at_start

    abbrev part : List (List Cell) → List (List Cell)
    part rows = filter keep (map shown rows)

    value_going : (rows found : List (List Cell)) (w : Walk) → rows ≡ found → GoesSo shown keep kept.limit request.limit rows w → walk_value w ≡ Some (Rows (cut request.limit (part found)))
    value_going rows found (Going s) e g = ap (λ r. Some (Rows r)) (sym (cut_none request.limit s.rows g.below) ∙ ap (cut request.limit) (g.rows_are ∙ ap part e))
    value_going rows found (Full s) e g = ap (λ r. Some (Rows r)) (sym (g []) ∙ ap (λ r. cut request.limit (part r)) (append-nil rows ∙ e))
    value_going rows found (Failed row column cause) e g = absurd g
    value_going rows found Waiting e g = absurd g

    value_full : (rows found : List (List Cell)) (w : Walk) → rows ≡ found → EndsSo shown keep kept.limit request.limit rows w → walk_value w ≡ Some (Rows (cut request.limit (part found)))
    value_full rows found (Going s) e g = absurd g
    value_full rows found (Full s) e g = ap (λ r. Some (Rows r)) (sym (g []) ∙ ap (λ r. cut request.limit (part r)) (append-nil rows ∙ e))
    value_full rows found (Failed row column cause) e g = absurd g
    value_full rows found Waiting e g = absurd g

    value_by : (v w : Walk) (rows : List (List Cell)) → Goes v w → is_steady v ≡ true → (is_complete v ≡ false → Plain shown keep kept.limit request.limit) → walk_value v ≡ Some (Rows rows)
        → walk_value w ≡ Some (Rows (cut request.limit (part rows)))
    value_by (Going t) w rows g steady plain value = let same : t.rows ≡ rows = cc in value_going t.rows rows w same (g steady)
    value_by (Full t) w rows g steady plain value = let same : t.rows ≡ rows = cc in value_full t.rows rows w same (g steady (plain refl))
    value_by (Failed row column cause) w rows g steady plain value = absurd (false≢true steady)
    value_by Waiting w rows g steady plain value = absurd (false≢true steady)

    -- the value of a scan that is covered
    pub covering_value : (rows : List (List Cell)) → kept.access ≡ request.access → is_steady (walk_by kept.access table kept answers) ≡ true
        → (is_complete (walk_by kept.access table kept answers) ≡ false → Plain shown keep kept.limit request.limit) → walk_value (walk_by kept.access table kept answers) ≡ Some (Rows rows)
        → walk_value (walk_by request.access table request answers) ≡ Some (Rows (cut request.limit (part rows)))
    covering_value rows same steady plain value =
        let at : Goes (walk_by kept.access table kept answers) (walk_by request.access table request answers) =
        subst (λ a. Goes (walk_by a table kept answers) (walk_by request.access table request answers)) (sym same) (access_follows request.access c.gets c.lists) in
        value_by (walk_by kept.access table kept answers) (walk_by request.access table request answers) rows at steady plain value
