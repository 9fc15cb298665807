-- The scan of a plain table is its items in order.
use Rattle.std.proofs.Math.Bool.{or-true}
use Rattle.std.proofs.lemmas.List.{append-nil, append_assoc}
use Rattle.std.proofs.Common.{◌≡◌, ℕ, suc, Bool, true, false, ◌&&◌, ◌||◌, List, [], ◌∷◌, ◌++◌, length, Option, Some, None, is_none, cond, refl, sym, ◌∙◌, ap, subst, arith}
use Rattle.std.specs.List.{list_all, list_any}
use Rattle.sp_value.specs.declared.cell.Cell.{Cell}
use Rattle.sp_model.specs.Fields.{field}
use Rattle.sp_model.proofs.Walking.{and_then_assoc, and_then_same}
use Rattle.sp_model.specs.Hydration.{hydrated}
use Rattle.sp_model.specs.PlainList.{is_plain_list, is_plain, plain_request, plain_key, has_no_function, plain_cell, plain_row, plain_end, plain_next, plain_rows, plain_value, PlainListIsItsItems}
use Rattle.sp_model.specs.RowOf.{column_of, source_of, with_cell, row_of, has_name, columns_named, checked}
use Rattle.sp_model.specs.Settling.{Answers, answers_of, judged, or_else}
use Rattle.sp_model.specs.Walk.{start, and_then, visit_all, visit_item, with_row, is_reached, walk_value, walk, list_source, Source, ended, walk_at, scan_value}
use Rattle.sp_model.specs.declared.call.Call.TheVariants as call
use Rattle.sp_model.specs.declared.call.Ending.{Ending}
use Rattle.sp_model.specs.declared.call.Ending.TheVariants.{End, Error}
use Rattle.sp_model.specs.declared.call.Reply.{Reply}
use Rattle.sp_model.specs.declared.declaration.ColumnDecl.{ColumnDecl}
use Rattle.sp_model.specs.declared.declaration.ListDecl.{ListDecl}
use Rattle.sp_model.specs.declared.declaration.TableDecl.{TableDecl}
use Rattle.sp_model.specs.declared.outcome.Outcome.{Outcome}
use Rattle.sp_model.specs.declared.outcome.Outcome.TheVariants.{Gave, Fails}
use Rattle.sp_model.specs.declared.outcome.Row.{Row}
use Rattle.sp_model.specs.declared.outcome.Row.TheVariants.{Whole, Broken}
use Rattle.sp_model.specs.declared.outcome.ScanValue.{ScanValue}
use Rattle.sp_model.specs.declared.outcome.ScanValue.TheVariants.{Rows, Failed}
use Rattle.sp_model.specs.declared.outcome.Walk.{Walk}
use Rattle.sp_model.specs.declared.outcome.Walk.TheVariants.{Going, Full, Waiting}
use Rattle.sp_model.specs.declared.outcome.WalkState.{WalkState}
use Rattle.sp_model.specs.declared.scan.ScanRequest.{ScanRequest}

source_plain : (gives : List ℕ → Option Outcome) (item : Cell) (f : Option (List ℕ)) → is_none f ≡ true → source_of gives item f ≡ Some (Gave item)
source_plain gives item None h = refl
source_plain gives item (Some f) h = cc

with_cell_plain : (name : List ℕ) (o : Outcome) (row : Row) → with_cell name (Some o) (Some row) ≡ Some (plain_cell name o row)
with_cell_plain name (Fails cause) row = refl
with_cell_plain name (Gave x) (Broken column cause) = refl
with_cell_plain name (Gave x) (Whole xs) = refl

left : (a b : Bool) → (a && b) ≡ true → a ≡ true
left a b h = grind arith

right : (a b : Bool) → (a && b) ≡ true → b ≡ true
right a b h = grind arith

pub row_plain : (gives : List ℕ → Option Outcome) (columns : List ColumnDecl) (item : Cell) → list_all has_no_function columns ≡ true
    → row_of gives columns item ≡ Some (plain_row columns item)
row_plain gives [] item h = refl
row_plain gives (k ∷ ks) item h =
    let here = source_plain gives item k.function (left (is_none k.function) (list_all has_no_function ks) h) in
    let later = row_plain gives ks item (right (is_none k.function) (list_all has_no_function ks) h) in
    ap (λ o. with_cell k.name (column_of k o) (row_of gives ks item)) here
    ∙ ap (λ row. with_cell k.name (Some (checked k.kind (field k.field item))) row) later
    ∙ with_cell_plain k.name (checked k.kind (field k.field item)) (plain_row ks item)

pub any_there : {X : Type 0} (test : X → Bool) (before : List X) (x : X) (after : List X) → test x ≡ true → list_any test (before ++ x ∷ after) ≡ true
any_there test [] x after h = ap (λ b. b || list_any test after) h
any_there test (y ∷ ys) x after h = ap (λ b. test y || b) (any_there test ys x after h) ∙ or-true (test y)

one_longer : {X : Type 0} (xs : List X) (x : X) → length (xs ++ x ∷ []) ≡ suc (length xs)
one_longer [] x = refl
one_longer (y ∷ ys) x = ap suc (one_longer ys x)

abbrev with_rows : List (List Cell) → ScanValue → ScanValue
with_rows before (Rows rows) = Rows (before ++ rows)
with_rows before (Failed row column cause) = Failed row column cause

with_none : (v : ScanValue) → with_rows [] v ≡ v
with_none (Rows rows) = refl
with_none (Failed row column cause) = refl

with_more : (before : List (List Cell)) (cells : List Cell) (number : ℕ) (v : ScanValue) → with_rows (before ++ cells ∷ []) v ≡ with_rows before (plain_next number (Whole cells) v)
with_more before cells number (Rows rows) = ap Rows (append_assoc before (cells ∷ []) rows)
with_more before cells number (Failed row column cause) = refl

abbrev plain_source : List ℕ → Source
plain_source function = record { function = function; rule = record { ignore = None; retry = None }; single = false }

abbrev ends : List ℕ → Ending → ℕ → Walk → WalkState → Walk
ends function ending count again t = ended (plain_source function) 1 (judged (record { ignore = None; retry = None }) 1 (Some ending)) count t again

ends_so : (function : List ℕ) (ending : Ending) (count : ℕ) (again : Walk) (s : WalkState)
    → walk_value (ends function ending count again s) ≡ Some (with_rows s.rows (plain_end function (suc s.items) ending))
ends_so function End count again s = ap (λ rows. Some (Rows rows)) (sym (append-nil s.rows))
ends_so function (Error text) count again s = refl

module _ (function : List ℕ) (columns : List ColumnDecl) (limit : Option ℕ) (ending : Ending) (count : ℕ) (again : Walk) where
  abbrev visit_row : Row → WalkState → Walk
  visit_row row s = with_row [] columns limit (Some row) s

  abbrev visit_plain : Cell → WalkState → Walk
  visit_plain item s = visit_row (plain_row columns item) s

  abbrev later_rows : ℕ → List Cell → ScanValue
  later_rows before items = plain_rows columns function limit before items ending

  -- as many rows as items
  abbrev GivesRows : List Cell → (WalkState → Walk) → Type 0
  GivesRows items rest = (t : WalkState) → length t.rows ≡ t.items → walk_value (rest t) ≡ Some (with_rows t.rows (later_rows t.items items))

  abbrev next_state : List Cell → WalkState → WalkState
  next_state cells s = record { rows = s.rows ++ cells ∷ []; items = suc s.items; steady = s.steady }

  kept_by : (full : Bool) (items : List Cell) (rest : WalkState → Walk) (cells : List Cell) (s : WalkState) → length (next_state cells s).rows ≡ suc s.items → GivesRows items rest
      → walk_value (and_then (cond full (Full (next_state cells s)) (Going (next_state cells s))) rest)
      ≡ Some (with_rows s.rows (plain_next (suc s.items) (Whole cells) (cond full (Rows []) (later_rows (suc s.items) items))))
  kept_by true items rest cells s counts h = refl
  kept_by false items rest cells s counts h =
      h (next_state cells s) counts ∙ ap (λ v. Some v) (with_more s.rows cells (suc s.items) (later_rows (suc s.items) items))

  next_row : (items : List Cell) (rest : WalkState → Walk) (row : Row) (s : WalkState) → length s.rows ≡ s.items → GivesRows items rest
      → walk_value (and_then (visit_row row s) rest)
      ≡ Some (with_rows s.rows (plain_next (suc s.items) row (cond (is_reached limit (suc s.items)) (Rows []) (later_rows (suc s.items) items))))
  next_row items rest (Broken column cause) s counted h = refl
  next_row items rest (Whole cells) s counted h =
      let counts : length (s.rows ++ cells ∷ []) ≡ suc s.items = one_longer s.rows cells ∙ ap suc counted in
      ap (λ b. walk_value (and_then (cond b (Full (next_state cells s)) (Going (next_state cells s))) rest)) (ap (is_reached limit) counts)
      ∙ kept_by (is_reached limit (suc s.items)) items rest cells s counts h

  walk_plain : (items : List Cell) → GivesRows items (λ s. and_then (visit_all visit_plain items s) (ends function ending count again))
  walk_plain [] s counted = ends_so function ending count again s
  walk_plain (item ∷ items) s counted = ap walk_value (and_then_assoc (visit_plain item s) (λ t. visit_all visit_plain items t) (ends function ending count again))
      ∙ next_row items (λ t. and_then (visit_all visit_plain items t) (ends function ending count again)) (plain_row columns item) s counted (walk_plain items)

-- visits that do the same give the same walk
pub visits_same : (first second : Cell → WalkState → Walk) → ((item : Cell) (s : WalkState) → first item s ≡ second item s) → (items : List Cell) (s : WalkState)
    → visit_all first items s ≡ visit_all second items s
visits_same first second same [] s = refl
visits_same first second same (item ∷ items) s =
    ap (λ w. and_then w (λ t. visit_all first items t)) (same item s)
    ∙ and_then_same (second item s) (λ t. visit_all first items t) (λ t. visit_all second items t) (λ t. visits_same first second same items t)

without : {X : Type 0} (o : Option X) → is_none o ≡ true → o ≡ None
without None h = refl
without (Some x) h = cc

picked_by : (there : Bool) (k : ColumnDecl) (ks : List ColumnDecl) → has_no_function k ≡ true → list_all has_no_function ks ≡ true
    → list_all has_no_function (cond there (k ∷ ks) ks) ≡ true
picked_by true k ks here later = grind arith
picked_by false k ks here later = later

-- columns that are picked have no function where no column has
picked_plain : (names : List (List ℕ)) (columns : List ColumnDecl) → list_all has_no_function columns ≡ true → list_all has_no_function (columns_named names columns) ≡ true
picked_plain names [] h = refl
picked_plain names (k ∷ ks) h =
    let later = picked_plain names ks (right (has_no_function k) (list_all has_no_function ks) h) in
    picked_by (has_name names k.name) k (columns_named names ks) (left (has_no_function k) (list_all has_no_function ks) h) later

parts_list : (table : TableDecl) → is_plain table ≡ true → is_plain_list table.list ≡ true
parts_list table h = grind arith

parts_columns : (table : TableDecl) → is_plain table ≡ true → list_all has_no_function table.columns ≡ true
parts_columns table h = grind arith

parts_ignore : (table : TableDecl) → is_plain table ≡ true → is_none table.ignore ≡ true
parts_ignore table h = grind arith

parts_retry : (table : TableDecl) → is_plain table ≡ true → is_none table.retry ≡ true
parts_retry table h = grind arith

parts_plugin_ignore : (table : TableDecl) → is_plain table ≡ true → is_none table.plugin.ignore ≡ true
parts_plugin_ignore table h = grind arith

parts_plugin_retry : (table : TableDecl) → is_plain table ≡ true → is_none table.plugin.retry ≡ true
parts_plugin_retry table h = grind arith

of_list_ignore : (list : ListDecl) → is_plain_list (Some list) ≡ true → is_none list.ignore ≡ true
of_list_ignore list h = grind arith

of_list_retry : (list : ListDecl) → is_plain_list (Some list) ≡ true → is_none list.retry ≡ true
of_list_retry list h = grind arith

-- the rules of a plain list
source_is : (table : TableDecl) (list : ListDecl) → is_plain table ≡ true → table.list ≡ Some list → list_source table table.list ≡ plain_source list.function
source_is table list h found =
    let plain = subst (λ l. is_plain_list l ≡ true) found (parts_list table h) in
    let ignore = ap (λ o. or_else o (or_else table.ignore table.plugin.ignore)) (without list.ignore (of_list_ignore list plain))
    ∙ ap (λ o. or_else o table.plugin.ignore) (without table.ignore (parts_ignore table h)) ∙ without table.plugin.ignore (parts_plugin_ignore table h) in
    let retry = ap (λ o. or_else o (or_else table.retry table.plugin.retry)) (without list.retry (of_list_retry list plain))
    ∙ ap (λ o. or_else o table.plugin.retry) (without table.retry (parts_retry table h)) ∙ without table.plugin.retry (parts_plugin_retry table h) in
    ap (list_source table) found
    ∙ ap (λ i. record { function = list.function; rule = record { ignore = i; retry = or_else list.retry (or_else table.retry table.plugin.retry) }; single = false }) ignore
    ∙ ap (λ r. record { function = list.function; rule = record { ignore = None; retry = r }; single = false }) retry

pub plain_list : PlainListIsItsItems
unfolding scan_value walk_at
plain_list book connection table list names limit version h found =
    let reply : Reply = book.reply (plain_key connection version table.name) in
    let columns : List ColumnDecl = columns_named names table.columns in
    let answers : Answers = answers_of book connection version in
    let gives : Cell → List ℕ → Option Outcome = λ item. λ f. hydrated table answers item f in
    let again : Walk = Waiting in
    let count = length reply.items in
    let plain : Cell → WalkState → Walk = visit_plain list.function columns limit reply.ending count again in
    let request : ScanRequest = plain_request connection table.name names limit in
    let visit : Cell → WalkState → Walk = λ item. λ s. visit_item table request answers item s in
    let same : (item : Cell) (s : WalkState) → visit item s ≡ plain item s = λ item. λ s.
    ap (λ row. with_row [] columns limit row s) (row_plain (gives item) columns item (picked_plain names table.columns (parts_columns table h))) in
    ap (λ source. walk_value (walk visit source (answers (call.List table.name [] None)) start)) (source_is table list h found)
    ∙ ap (λ w. walk_value (and_then w (ends list.function reply.ending count again))) (visits_same visit plain same reply.items start)
    ∙ walk_plain list.function columns limit reply.ending count again reply.items start refl
    ∙ ap (λ v. Some v) (with_none (plain_value columns list.function limit reply))
