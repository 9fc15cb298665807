-- The walk of a scan, one call after another.
use Rattle.std.specs.Prelude.{ℕ, zero, suc, ◌-◌, Bool, true, false, ◌&&◌, nat_le, nat_lt, List, [], ◌∷◌, ◌++◌, length, map, Option, Some, None, if◌then◌else◌}
use Rattle.std.specs.List.{list_all, zip}
use Rattle.sp_value.specs.Names.{value_under}
use Rattle.sp_value.specs.Truth.{truth}
use Rattle.sp_value.specs.declared.cell.Cell.{Cell}
use Rattle.sp_value.specs.declared.truth.Truth.{Truth}
use Rattle.sp_value.specs.declared.truth.Truth.TheVariants.{Yes, No, Unknown}
use Rattle.sp_model.specs.Book.{Book}
use Rattle.sp_model.specs.Fields.{or_null}
use Rattle.sp_model.specs.Hydration.{hydrated}
use Rattle.sp_model.specs.RowOf.{columns_named, row_of}
use Rattle.sp_model.specs.Settling.{Seen, Answers, answers_of, rule_of, attempts_of, Verdict, Accept, Again, Refuse, Open, judged}
use Rattle.sp_model.specs.declared.call.Call.{Call}
use Rattle.sp_model.specs.declared.call.Call.TheVariants as call
use Rattle.sp_model.specs.declared.call.Condition.{Condition}
use Rattle.sp_model.specs.declared.call.Version as version
use Rattle.sp_model.specs.declared.call.Version.TheVariants.{Is, Bad}
use Rattle.sp_model.specs.declared.declaration.AccessDecl.{AccessDecl}
use Rattle.sp_model.specs.declared.declaration.ColumnDecl.{ColumnDecl}
use Rattle.sp_model.specs.declared.declaration.GetDecl.{GetDecl}
use Rattle.sp_model.specs.declared.declaration.ListDecl.{ListDecl}
use Rattle.sp_model.specs.declared.declaration.Rule.{Rule}
use Rattle.sp_model.specs.declared.declaration.TableDecl.{TableDecl}
use Rattle.sp_model.specs.declared.outcome.Row.{Row}
use Rattle.sp_model.specs.declared.outcome.Row.TheVariants.{Whole, Broken}
use Rattle.sp_model.specs.declared.outcome.ScanValue.{ScanValue}
use Rattle.sp_model.specs.declared.outcome.ScanValue.TheVariants.{Rows, Failed as FailedAt}
use Rattle.sp_model.specs.declared.outcome.Walk.{Walk}
use Rattle.sp_model.specs.declared.outcome.Walk.TheVariants.{Going, Full, Failed, Waiting}
use Rattle.sp_model.specs.declared.outcome.WalkState.{WalkState}
use Rattle.sp_model.specs.declared.scan.Access.{Access}
use Rattle.sp_model.specs.declared.scan.Access.TheVariants.{Get, List as OfList, Parents}
use Rattle.sp_model.specs.declared.scan.Cause.TheVariants.{Error, TooMany, BadVersion}
use Rattle.sp_model.specs.declared.scan.ScanRequest.{ScanRequest}

-- no rows yet
abbrev pub start : WalkState
start = record { rows = []; items = 0; steady = true }

-- a walk that goes on goes on so
abbrev pub and_then : Walk → (WalkState → Walk) → Walk
and_then (Going s) more = more s
and_then (Full s) more = Full s
and_then (Failed row column cause) more = Failed row column cause
and_then Waiting more = Waiting

-- ---- an item

abbrev pub is_yes : Truth → Bool
is_yes Yes = true
is_yes No = false
is_yes Unknown = false

-- the cell of a column, null where the column isn't among them
abbrev pub cell_of : List ColumnDecl → List Cell → List ℕ → Cell
cell_of columns cells name = or_null (value_under name (zip (map (λ column. column.name) columns) cells))

-- each condition is true of a row
abbrev pub meets : List Condition → List ColumnDecl → List Cell → Bool
meets conditions columns cells = list_all (λ condition. is_yes (truth condition.operator (cell_of columns cells condition.column) condition.value)) conditions

abbrev pub is_reached : Option ℕ → ℕ → Bool
is_reached None count = false
is_reached (Some limit) count = nat_le limit count

abbrev pub with_row_kept : Option ℕ → List (List Cell) → WalkState → Walk
with_row_kept limit rows s =
    if is_reached limit (length rows)
    then Full (record { rows = rows; items = suc s.items; steady = s.steady })
    else Going (record { rows = rows; items = suc s.items; steady = s.steady })

-- a row is kept where it meets the conditions, and a row that fails fails the walk at its number
abbrev pub with_row : List Condition → List ColumnDecl → Option ℕ → Option Row → WalkState → Walk
with_row conditions columns limit None s = Waiting
with_row conditions columns limit (Some (Broken column cause)) s = Failed (suc s.items) (Some column) cause
with_row conditions columns limit (Some (Whole cells)) s =
    if meets conditions columns cells
    then with_row_kept limit (s.rows ++ cells ∷ []) s
    else Going (record { rows = s.rows; items = suc s.items; steady = s.steady })

-- an item of a list or get
abbrev pub visit_item : TableDecl → ScanRequest → Answers → Cell → WalkState → Walk
visit_item table request answers item s =
    let columns : List ColumnDecl = columns_named request.columns table.columns in
    with_row request.conditions columns request.limit (row_of (hydrated table answers item) columns item) s

-- ---- a call

-- items one after another, where `visit` says what one of them does
abbrev pub visit_all : (Cell → WalkState → Walk) → List Cell → WalkState → Walk
visit_all visit [] s = Going s
visit_all visit (item ∷ items) s = and_then (visit item s) (λ t. visit_all visit items t)

-- a call's function and rules, and whether it may give one item at most
pub record Source : Type 0 where
  pub function : List ℕ
  pub rule : Rule
  pub single : Bool

abbrev pub accepted : Source → ℕ → WalkState → Walk
accepted source count s = if source.single && nat_lt 1 count then Failed (suc s.items) None (TooMany source.function count) else Going s

-- after the items of an attempt: `again` is the walk of the next attempt
abbrev pub ended : Source → ℕ → Verdict → ℕ → WalkState → Walk → Walk
ended source attempt Accept count s again = accepted source count s
ended source attempt Again count s again = again
ended source attempt (Refuse text) count s again = Failed (suc s.items) None (Error source.function attempt text)
ended source attempt Open count s again = Waiting

abbrev pub unsteady : WalkState → WalkState
unsteady s = record { rows = s.rows; items = s.items; steady = false }

-- at most n attempts, from this one on; each begins in the state at the call's beginning, so that what an earlier one gave is dropped
abbrev pub walk_in : ℕ → (Cell → WalkState → Walk) → Source → (ℕ → Seen) → ℕ → WalkState → Walk
walk_in zero visit source replies attempt s = Waiting
walk_in (suc n) visit source replies attempt s =
    and_then (visit_all visit (replies attempt).items s)
    (λ t. ended source attempt (judged source.rule attempt (replies attempt).ending) (length (replies attempt).items) t
    (walk_in n visit source replies (suc attempt) (unsteady s)))

abbrev pub walk_from : (Cell → WalkState → Walk) → Source → (ℕ → Seen) → ℕ → WalkState → Walk
walk_from visit source replies attempt s = walk_in (suc (attempts_of source.rule.retry - attempt)) visit source replies attempt s

-- the walk of a call
abbrev pub walk : (Cell → WalkState → Walk) → Source → (ℕ → Seen) → WalkState → Walk
walk visit source replies s = walk_from visit source replies 1 s

-- ---- a scan

abbrev pub no_source : Source
no_source = record { function = []; rule = record { ignore = None; retry = None }; single = false }

abbrev pub list_source : TableDecl → Option ListDecl → Source
list_source table None = no_source
list_source table (Some d) = record { function = d.function; rule = rule_of table d.ignore d.retry; single = false }

abbrev pub get_source : TableDecl → Option GetDecl → Source
get_source table None = no_source
get_source table (Some d) = record { function = d.function; rule = rule_of table d.ignore d.retry; single = true }

abbrev pub parent_source : TableDecl → Option AccessDecl → Source
parent_source table None = no_source
parent_source table (Some d) = record { function = d.function; rule = rule_of table d.ignore d.retry; single = false }

abbrev pub parent_of : Option ListDecl → Option AccessDecl
parent_of None = None
parent_of (Some d) = d.parent

-- a list or get: its items
abbrev pub walk_items : TableDecl → ScanRequest → Answers → Source → Call → WalkState → Walk
walk_items table request answers source asked s = walk (visit_item table request answers) source (answers asked) s

-- a parent is visited by the walk of its child list
abbrev pub visit_parent : TableDecl → ScanRequest → Answers → Cell → WalkState → Walk
visit_parent table request answers parent s =
    walk_items table request answers (list_source table table.list) (call.List table.name request.conditions (Some parent)) s

abbrev pub walk_by : Access → TableDecl → ScanRequest → Answers → Walk
walk_by Get table request answers = walk_items table request answers (get_source table table.get) (call.Get table.name request.conditions) start
walk_by OfList table request answers = walk_items table request answers (list_source table table.list) (call.List table.name request.conditions None) start
walk_by Parents table request answers =
    walk (visit_parent table request answers) (parent_source table (parent_of table.list)) (answers (call.Parents table.name)) start

-- the walk of a scan
abbrev pub scan_walk : TableDecl → ScanRequest → Answers → Walk
scan_walk table request answers = walk_by request.access table request answers

abbrev pub walk_value : Walk → Option ScanValue
walk_value (Going s) = Some (Rows s.rows)
walk_value (Full s) = Some (Rows s.rows)
walk_value (Failed row column cause) = Some (FailedAt row column cause)
walk_value Waiting = None

-- the walk of a scan by a book at a version; a bad version fails it before its first row
unfoldable pub walk_at : Book → TableDecl → ScanRequest → version.Version → Walk
walk_at book table request (Is v) = scan_walk table request (answers_of book request.connection v)
walk_at book table request (Bad text) = Failed 0 None (BadVersion text)

-- what a scan gives by a book at a version: rows, or its first failure
unfoldable pub scan_value : Book → TableDecl → ScanRequest → version.Version → Option ScanValue
scan_value book table request version = walk_value (walk_at book table request version)

-- a walk that came to the ending of its calls, and not to its limit
abbrev pub is_complete : Walk → Bool
is_complete (Going s) = true
is_complete (Full s) = false
is_complete (Failed row column cause) = true
is_complete Waiting = false

-- a walk that ended in rows, and in which no list, get or parents call was asked again
abbrev pub is_steady : Walk → Bool
is_steady (Going s) = s.steady
is_steady (Full s) = s.steady
is_steady (Failed row column cause) = false
is_steady Waiting = false
