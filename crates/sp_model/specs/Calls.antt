-- Calls that may be made, the calls that a scan's value rests on, and those that a scan may come to make.
use Rattle.std.specs.Prelude.{ℕ, zero, suc, ◌-◌, Bool, false, ◌&&◌, ◌||◌, not, nat_le, List, [], ◌∷◌, ◌++◌, length, map, filter, Option, Some, None, is_some, option_map, bytes_eq}
use Rattle.std.specs.List.{list_any, list_all}
use Rattle.sp_value.specs.Names.{names_of}
use Rattle.sp_value.specs.declared.cell.Cell.{Cell}
use Rattle.sp_model.specs.Conditions.{is_canonical}
use Rattle.sp_model.specs.Hydration.{gave, results_of, find_function, depends_of, hydrated}
use Rattle.sp_model.specs.Keys.{is_sent, is_met, is_equality}
use Rattle.sp_model.specs.RowOf.{has_name, columns_named, column_value}
use Rattle.sp_model.specs.Settling.{Seen, Answers, rule_of, attempts_of, Verdict, Accept, Again, Refuse, Open, judged}
use Rattle.sp_model.specs.Units.{flat_map}
use Rattle.sp_model.specs.Walk.{start, visit_all, visit_item, visit_parent, unsteady, Source, list_source, get_source, parent_source, parent_of, walk}
use Rattle.sp_model.specs.declared.call.Call.{Call}
use Rattle.sp_model.specs.declared.call.Call.TheVariants as call
use Rattle.sp_model.specs.declared.call.Condition.{Condition}
use Rattle.sp_model.specs.declared.declaration.AccessDecl.{AccessDecl}
use Rattle.sp_model.specs.declared.declaration.ColumnDecl.{ColumnDecl}
use Rattle.sp_model.specs.declared.declaration.FunctionDecl.{FunctionDecl}
use Rattle.sp_model.specs.declared.declaration.GetDecl.{GetDecl}
use Rattle.sp_model.specs.declared.declaration.KeyDecl.{KeyDecl}
use Rattle.sp_model.specs.declared.declaration.ListDecl.{ListDecl}
use Rattle.sp_model.specs.declared.declaration.Retry.{Retry}
use Rattle.sp_model.specs.declared.declaration.TableDecl.{TableDecl}
use Rattle.sp_model.specs.declared.outcome.Outcome.{Outcome}
use Rattle.sp_model.specs.declared.outcome.Results.{Results}
use Rattle.sp_model.specs.declared.outcome.Results.TheVariants.{Given, Missed, Pending}
use Rattle.sp_model.specs.declared.outcome.Walk.{Walk}
use Rattle.sp_model.specs.declared.outcome.Walk.TheVariants.{Going, Full, Failed, Waiting}
use Rattle.sp_model.specs.declared.outcome.WalkState.{WalkState}
use Rattle.sp_model.specs.declared.scan.Access.{Access}
use Rattle.sp_model.specs.declared.scan.Access.TheVariants.{Get, List as OfList, Parents}
use Rattle.sp_model.specs.declared.scan.ScanRequest.{ScanRequest}

-- ---- lawful calls

-- an attempt from 1 to the rule's greatest
abbrev pub is_attempt : TableDecl → Option (List (List ℕ)) → Option Retry → ℕ → Bool
is_attempt table ignore retry attempt = nat_le 1 attempt && nat_le attempt (attempts_of (rule_of table ignore retry).retry)

-- conditions in canonical order that are sent on the keys and meet them
abbrev pub fit_keys : List KeyDecl → List Condition → Bool
fit_keys keys conditions = is_canonical conditions && list_all (is_sent keys) conditions && is_met keys conditions

-- the results of exactly these functions
abbrev pub are_results_of : List (List ℕ) → List (List ℕ × Cell) → Bool
are_results_of depends results = list_all (has_name (names_of results)) depends && list_all (has_name depends) (names_of results)

abbrev pub same_presence : Bool → Bool → Bool
same_presence a b = (a && b) || (not a && not b)

abbrev pub is_lawful_list : TableDecl → List Condition → Option Cell → ℕ → Option ListDecl → Bool
is_lawful_list table conditions parent attempt None = false
is_lawful_list table conditions parent attempt (Some d) =
    is_attempt table d.ignore d.retry attempt && fit_keys d.keys conditions && same_presence (is_some parent) (is_some d.parent)

abbrev pub is_lawful_parents : TableDecl → ℕ → Option AccessDecl → Bool
is_lawful_parents table attempt None = false
is_lawful_parents table attempt (Some d) = is_attempt table d.ignore d.retry attempt

abbrev pub is_lawful_get : TableDecl → List Condition → ℕ → Option GetDecl → Bool
is_lawful_get table conditions attempt None = false
is_lawful_get table conditions attempt (Some d) = is_attempt table d.ignore d.retry attempt && fit_keys d.keys conditions && list_all is_equality conditions

abbrev pub is_lawful_hydrate : TableDecl → List (List ℕ × Cell) → ℕ → Option FunctionDecl → Bool
is_lawful_hydrate table results attempt None = false
is_lawful_hydrate table results attempt (Some f) = is_attempt table f.ignore f.retry attempt && are_results_of f.depends results

-- a call of this table, in an attempt
abbrev pub is_lawful_by : TableDecl → Call → ℕ → Bool
is_lawful_by table (call.List name conditions parent) attempt = bytes_eq name table.name && is_lawful_list table conditions parent attempt table.list
is_lawful_by table (call.Parents name) attempt = bytes_eq name table.name && is_lawful_parents table attempt (parent_of table.list)
is_lawful_by table (call.Get name conditions) attempt = bytes_eq name table.name && is_lawful_get table conditions attempt table.get
is_lawful_by table (call.Hydrate name function item results) attempt =
    bytes_eq name table.name && is_lawful_hydrate table results attempt (find_function function table.functions)

-- a call of a declared table
abbrev pub is_lawful : List TableDecl → Call → ℕ → Bool
is_lawful tables asked attempt = list_any (λ table. is_lawful_by table asked attempt) tables

-- the function that a table declares for a call; the call of a function names its own
abbrev pub function_of : TableDecl → Call → Option (List ℕ)
function_of table (call.List name conditions parent) = option_map (λ d. d.function) table.list
function_of table (call.Parents name) = option_map (λ d. d.function) (parent_of table.list)
function_of table (call.Get name conditions) = option_map (λ d. d.function) table.get
function_of table (call.Hydrate name function item results) = Some function

abbrev pub same_function : Option (List ℕ) → Option (List ℕ) → Bool
same_function (Some a) (Some b) = bytes_eq a b
same_function _ _ = false

-- a call of a declared table, asked by a line that names the function which the table declares for it
abbrev pub is_lawful_request : List TableDecl → Call → ℕ → Option (List ℕ) → Bool
is_lawful_request tables asked attempt function =
    list_any (λ table. is_lawful_by table asked attempt && same_function function (function_of table asked)) tables

-- ---- functions that count

-- these up to the first that gave nothing, and `here` where all gave
abbrev pub decides_some : (List ℕ → Bool) → (List ℕ → Option Outcome) → List (List ℕ) → Bool → Bool
decides_some decides gives [] here = here
decides_some decides gives (name ∷ names) here = decides name || (gave (gives name) && decides_some decides gives names here)

-- the call of g decides what f gives: of a function that fails by a dependency only the dependencies up to that one count
abbrev pub decides_in : ℕ → List FunctionDecl → (List ℕ → Option Outcome) → List ℕ → List ℕ → Bool
decides_in zero functions gives g f = false
decides_in (suc n) functions gives g f =
    decides_some (λ d. decides_in n functions gives g d) gives (depends_of (find_function f functions)) (bytes_eq f g)

abbrev pub decides_source : List FunctionDecl → (List ℕ → Option Outcome) → List ℕ → Option (List ℕ) → Bool
decides_source functions gives g None = false
decides_source functions gives g (Some f) = decides_in (length functions) functions gives g f

-- the call of g decides these columns, up to the first that fails
abbrev pub decides_columns : List FunctionDecl → (List ℕ → Option Outcome) → Cell → List ℕ → List ColumnDecl → Bool
decides_columns functions gives item g [] = false
decides_columns functions gives item g (column ∷ columns) =
    decides_source functions gives g column.function || (gave (column_value gives item column) && decides_columns functions gives item g columns)

-- f is g or needs g
abbrev pub needs_in : ℕ → List FunctionDecl → List ℕ → List ℕ → Bool
needs_in zero functions g f = false
needs_in (suc n) functions g f = bytes_eq f g || list_any (λ d. needs_in n functions g d) (depends_of (find_function f functions))

abbrev pub needs_source : List FunctionDecl → List ℕ → Option (List ℕ) → Bool
needs_source functions g None = false
needs_source functions g (Some f) = needs_in (length functions) functions g f

-- a column needs g
abbrev pub is_wanted : List FunctionDecl → List ColumnDecl → List ℕ → Bool
is_wanted functions columns g = list_any (λ column. needs_source functions g column.function) columns

-- ---- their calls

abbrev pub on_again : {X : Type 0} → Verdict → List X → List X
on_again Accept later = []
on_again Again later = later
on_again (Refuse text) later = []
on_again Open later = []

-- the attempts of a call until it is settled
abbrev pub attempts_in : ℕ → Option (List (List ℕ)) → TableDecl → Option Retry → (ℕ → Seen) → ℕ → List ℕ
attempts_in zero ignore table retry replies attempt = []
attempts_in (suc n) ignore table retry replies attempt =
    attempt ∷ on_again (judged (rule_of table ignore retry) attempt (replies attempt).ending) (attempts_in n ignore table retry replies (suc attempt))

abbrev pub calls_with : TableDecl → Answers → Cell → FunctionDecl → Results → List (Call × ℕ)
calls_with table answers item f (Given results) =
    let asked : Call = call.Hydrate table.name f.name item results in
    map (λ attempt. (asked, attempt)) (attempts_in (suc (attempts_of (rule_of table f.ignore f.retry).retry - 1)) f.ignore table f.retry (answers asked) 1)
calls_with table answers item f (Missed cause) = []
calls_with table answers item f Pending = []

-- the calls of a function for an item, none where a dependency gave nothing
abbrev pub calls_of : TableDecl → Answers → Cell → FunctionDecl → List (Call × ℕ)
calls_of table answers item f = calls_with table answers item f (results_of (hydrated table answers item) f.depends)

-- the calls that an item's row rests on
abbrev pub used_item : TableDecl → ScanRequest → Answers → Cell → WalkState → List (Call × ℕ)
used_item table request answers item s =
    flat_map (calls_of table answers item)
    (filter (λ f. decides_columns table.functions (hydrated table answers item) item f.name (columns_named request.columns table.columns)) table.functions)

-- the calls of all functions that an item's row wants
abbrev pub reach_item : TableDecl → ScanRequest → Answers → Cell → WalkState → List (Call × ℕ)
reach_item table request answers item s =
    flat_map (calls_of table answers item) (filter (λ f. is_wanted table.functions (columns_named request.columns table.columns) f.name) table.functions)

-- ---- the calls of a walk

abbrev pub on_going : {X : Type 0} → Walk → (WalkState → List X) → List X
on_going (Going s) more = more s
on_going (Full s) more = []
on_going (Failed row column cause) more = []
on_going Waiting more = []

abbrev pub calls_all : (Cell → WalkState → Walk) → (Cell → WalkState → List (Call × ℕ)) → List Cell → WalkState → List (Call × ℕ)
calls_all visit calls [] s = []
calls_all visit calls (item ∷ items) s = calls item s ++ on_going (visit item s) (λ t. calls_all visit calls items t)

-- each attempt of a call, and what its items call
abbrev pub calls_in : ℕ → (Cell → WalkState → Walk) → (Cell → WalkState → List (Call × ℕ)) → Source → Call → (ℕ → Seen) → ℕ → WalkState → List (Call × ℕ)
calls_in zero visit calls source asked replies attempt s = []
calls_in (suc n) visit calls source asked replies attempt s =
    (asked, attempt) ∷ calls_all visit calls (replies attempt).items s
    ++ on_going (visit_all visit (replies attempt).items s)
    (λ t. on_again (judged source.rule attempt (replies attempt).ending) (calls_in n visit calls source asked replies (suc attempt) (unsteady s)))

abbrev pub calls_of_walk : (Cell → WalkState → Walk) → (Cell → WalkState → List (Call × ℕ)) → Source → Call → Answers → WalkState → List (Call × ℕ)
calls_of_walk visit calls source asked answers s = calls_in (suc (attempts_of source.rule.retry - 1)) visit calls source asked (answers asked) 1 s

abbrev pub child_call : TableDecl → ScanRequest → Cell → Call
child_call table request parent = call.List table.name request.conditions (Some parent)

-- the calls of a scan, where `visit` and `calls` are those of an item, and `walk_child` is the walk of a parent's list
abbrev pub calls_by : Access → TableDecl → ScanRequest → Answers → (Cell → WalkState → Walk) → (Cell → WalkState → List (Call × ℕ)) → (Cell → WalkState → Walk) → List (Call × ℕ)
calls_by Get table request answers visit calls walk_child =
    calls_of_walk visit calls (get_source table table.get) (call.Get table.name request.conditions) answers start
calls_by OfList table request answers visit calls walk_child =
    calls_of_walk visit calls (list_source table table.list) (call.List table.name request.conditions None) answers start
calls_by Parents table request answers visit calls walk_child =
    calls_of_walk walk_child
    (λ parent. λ s. calls_of_walk visit calls (list_source table table.list) (child_call table request parent) answers s)
    (parent_source table (parent_of table.list)) (call.Parents table.name) answers start

-- the calls, with attempts, whose replies the walk takes up to where it stops
abbrev pub used : TableDecl → ScanRequest → Answers → List (Call × ℕ)
used table request answers =
    calls_by request.access table request answers (visit_item table request answers) (used_item table request answers) (visit_parent table request answers)

-- an item that is passed, whatever its row is
abbrev pub pass_item : Cell → WalkState → Walk
pass_item item s = Going s

-- a parent is passed where its list doesn't fail
abbrev pub pass_parent : TableDecl → ScanRequest → Answers → Cell → WalkState → Walk
pass_parent table request answers parent s =
    walk pass_item (list_source table table.list) (answers (child_call table request parent)) s

-- the calls of the walk that stops at no limit and at no failing row, with all functions that each item's row wants
abbrev pub reach : TableDecl → ScanRequest → Answers → List (Call × ℕ)
reach table request answers =
    calls_by request.access table request answers pass_item (reach_item table request answers) (pass_parent table request answers)
