-- The rows that a kept scan gives to a request are the request's own value.
use Rattle.std.proofs.Common.{◌≡◌, ℕ, Bool, true, false, ◌&&◌, ◌||◌, List, map, filter, Option, Some, None, bytes_eq, refl, sym, ap, subst, ◌∙◌}
use Rattle.std.proofs.lemmas.Bool.{false≢true}
use Rattle.std.specs.List.{list_all}
use Rattle.sp_value.specs.declared.cell.Cell.{Cell}
use Rattle.sp_model.specs.Book.{Book}
use Rattle.sp_model.specs.Conditions.{is_canonical}
use Rattle.sp_model.specs.Covers.{is_get, same_access, further, covers_same, covers_more, covers, rows_from, cut}
use Rattle.sp_model.specs.Keys.{is_sent}
use Rattle.sp_model.specs.Names.{has_name}
use Rattle.sp_model.specs.Requests.{IsRequestOf, are_sent, keys_for, is_positive}
use Rattle.sp_model.specs.RowOf.{columns_named, names_of_columns}
use Rattle.sp_model.specs.Walk.{walk_at, scan_value, is_complete, is_steady}
use Rattle.sp_model.specs.declared.call.Condition.{Condition}
use Rattle.sp_model.specs.declared.call.Version.{Version}
use Rattle.sp_model.specs.declared.call.Version.TheVariants.{Is, Bad}
use Rattle.sp_model.specs.declared.declaration.ColumnDecl.{ColumnDecl}
use Rattle.sp_model.specs.declared.declaration.KeyDecl.{KeyDecl}
use Rattle.sp_model.specs.declared.declaration.TableDecl.{TableDecl}
use Rattle.sp_model.specs.declared.outcome.ScanValue.TheVariants.{Rows}
use Rattle.sp_model.specs.declared.scan.ScanRequest.{ScanRequest}
use Rattle.decl_words.specs.BookTables.{book_table}
use Rattle.decl_words.specs.Sound.{BookTablesAreSound}
use Rattle.model_laws.specs.Covered.{is_asked_of, OnlyFilters, CoveredScanGivesTheRows}
use Rattle.model_laws.proofs.FewerColumns.{bytes_same}
use Rattle.model_laws.proofs.Merging.{left, right, all_filter}
use Rattle.sp_world.specs.Kept.{IsKeptWalk, IsKeptValue}
use Rattle.sp_world.specs.declared.kept_scan.KeptScan.{KeptScan}
use Rattle.query_cache.specs.Serving.{in_names, are_true_of, served_rows, AreItsOwn}
use Rattle.query_cache.proofs.Renaming.{by_columns}

-- ---- what a request of a table keeps

sent_parts : (keys : Option (List KeyDecl)) (request : ScanRequest) → are_sent keys request ≡ true
    → (is_canonical request.conditions ≡ true) × (list_all (λ (condition : Condition). has_name request.columns condition.column) request.conditions ≡ true)
unfolding are_sent
sent_parts None request h = absurd (false≢true h)
sent_parts (Some keys) request h =
    let on_column : Bool = list_all (λ (condition : Condition). has_name request.columns condition.column) request.conditions in
    let first : (is_canonical request.conditions && list_all (is_sent keys) request.conditions) ≡ true =
    left (is_canonical request.conditions && list_all (is_sent keys) request.conditions) on_column h in (
      left (is_canonical request.conditions) (list_all (is_sent keys) request.conditions) first,
      right (is_canonical request.conditions && list_all (is_sent keys) request.conditions) on_column h,
    )

both : (a b : Bool) → a ≡ true → b ≡ true → (a && b) ≡ true
both true b e h = h
both false b e h = e

columns_of : (table : TableDecl) (request : ScanRequest) → IsRequestOf table request
    → list_all (λ (condition : Condition). has_name (names_of_columns (columns_named request.columns table.columns)) condition.column) request.conditions ≡ true
columns_of table request made =
    subst (λ (names : List (List ℕ)). list_all (λ (condition : Condition). has_name names condition.column) request.conditions ≡ true) made.columns
    (sent_parts (keys_for table request.access) request made.sent).1

asked_of : (table : TableDecl) (request : ScanRequest) → IsRequestOf table request → is_asked_of table request ≡ true
asked_of table request made =
    let on_column : Bool = list_all (λ (condition : Condition). has_name (names_of_columns (columns_named request.columns table.columns)) condition.column) request.conditions in
    both (is_canonical request.conditions && on_column) (is_positive request.limit)
    (both (is_canonical request.conditions) on_column (sent_parts (keys_for table request.access) request made.sent).0 (columns_of table request made)) made.limit

-- ---- what a scan that covers a request has in common with it

same_source : (kept : ScanRequest) (complete : Bool) (request : ScanRequest) → covers kept complete request ≡ true → (kept.connection ≡ request.connection) × (kept.table ≡ request.table)
unfolding covers
same_source kept complete request h =
    let a : Bool = bytes_eq kept.connection request.connection in
    let b : Bool = bytes_eq kept.table request.table in
    let c : Bool = same_access kept.access request.access in
    let d : Bool = list_all (has_name kept.columns) request.columns in
    let ab : (a && b) ≡ true = left (a && b) c (left (a && b && c) d (left (a && b && c && d) (covers_same kept complete request || covers_more kept complete request) h)) in
    (bytes_same kept.connection request.connection (left a b ab), bytes_same kept.table request.table (right a b ab))

-- ---- the rows

named_further : (table : TableDecl) (kept request : ScanRequest) → IsRequestOf table request
    → list_all (λ (condition : Condition). has_name (names_of_columns (columns_named request.columns table.columns)) condition.column) (further kept request) ≡ true
named_further table kept request made = all_filter _ _ request.conditions (columns_of table request made)

rows_are : (table : TableDecl) (kept : KeptScan) (request : ScanRequest) → IsRequestOf table kept.note.request → IsRequestOf table request
    → rows_from table kept.note.request kept.rows request ≡ served_rows kept request
unfolding rows_from served_rows
rows_are table kept request made asked =
    let names : List (List ℕ) = kept.note.request.columns in
    let from : List ColumnDecl = columns_named names table.columns in
    let to : List ColumnDecl = columns_named request.columns table.columns in
    let more : List Condition = further kept.note.request request in
    ap (cut request.limit)
    (sym (by_columns from to more (named_further table kept.note.request request asked) kept.rows)
    ∙ ap (λ (ns : List (List ℕ)). map (in_names ns (names_of_columns to)) (filter (are_true_of more ns) kept.rows)) (sym made.columns)
    ∙ ap (λ (ns : List (List ℕ)). map (in_names names ns) (filter (are_true_of more names) kept.rows)) (sym asked.columns))

-- the value of the request at the kept scan's version
value_is : CoveredScanGivesTheRows → BookTablesAreSound → (book : Book) (table : TableDecl) (kept : KeptScan) (request : ScanRequest) (version : Version) → kept.note.version ≡ version
    → IsKeptWalk book table kept → covers kept.note.request kept.complete request ≡ true → book_table book request.connection request.table ≡ Some table → IsRequestOf table request
    → (is_get request.access ≡ false → OnlyFilters book table kept.note.request request table.list)
    → scan_value book table request version ≡ Some (Rows (rows_from table kept.note.request kept.rows request))
unfolding scan_value walk_at
value_is law sound book table kept request (Is v) at walk covered is_table made only =
    law book table kept.note.request request v kept.rows
    (sound book request.connection request.table table is_table).1.columns
    (both (is_asked_of table kept.note.request) (is_asked_of table request) (asked_of table kept.note.request walk.made_of) (asked_of table request made))
    only
    (subst (λ (w : Version). is_steady (walk_at book table kept.note.request w) ≡ true) at walk.steady)
    (subst (λ (b : Bool). covers kept.note.request b request ≡ true) (walk.complete ∙ ap (λ (w : Version). is_complete (walk_at book table kept.note.request w)) at) covered)
    (subst (λ (w : Version). scan_value book table kept.note.request w ≡ Some (Rows kept.rows)) at walk.value)
value_is law sound book table kept request (Bad text) at walk covered is_table made only =
    let h = subst (λ (w : Version). scan_value book table kept.note.request w ≡ Some (Rows kept.rows)) at walk.value in
    absurd (cc)

pub own_rows : CoveredScanGivesTheRows → BookTablesAreSound → (book : Book) (kept : KeptScan) (request : ScanRequest) → IsKeptValue book kept
    → covers kept.note.request kept.complete request ≡ true → AreItsOwn book kept request (served_rows kept request)
own_rows law sound book kept request value covered table is_table made only =
    let source = same_source kept.note.request kept.complete request covered in
    let kept_table : book_table book kept.note.request.connection kept.note.request.table ≡ Some table =
    ap (λ (c : List ℕ). book_table book c kept.note.request.table) source.0 ∙ ap (λ (t : List ℕ). book_table book request.connection t) source.1 ∙ is_table in
    let walk : IsKeptWalk book table kept = value.walk table kept_table in
    subst (λ (rows : List (List Cell)). scan_value book table request kept.note.version ≡ Some (Rows rows)) (rows_are table kept request walk.made_of made)
    (value_is law sound book table kept request kept.note.version refl walk covered is_table made only)
