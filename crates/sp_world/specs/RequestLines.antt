-- Request lines.
use Rattle.std.specs.Prelude.{◌≡◌, ℕ, ◌^◌, ◌<◌, ◌&&◌, Bool, true, List, [], ◌∷◌, ◌++◌, map, codes, bytes_eq, nat_lt, if◌then◌else◌, Option, Some, None, IsSome, ◌≤◌, Result, option_and_then, option_map}
use Rattle.serde_json.specs.Data.{Data, null, boolean, number, string, array, object, unsigned, Items, no_items, item, Members, no_members, member}
use Rattle.serde_json.specs.Find.{get, at, as_str, as_i64}
use Rattle.serde_json.specs.View.{items_of}
use Rattle.serde_json.specs.Written.{compact_text}
use Rattle.sp_value.specs.Json.{pairs_of, data_of, members_from, pairs_data}
use Rattle.sp_value.specs.declared.cell.Cell.{Cell}
use Rattle.sp_value.specs.declared.cell.Cell as cell
use Rattle.sp_value.specs.declared.cell.Cell.TheOpen.{Cell-F}
use Rattle.sp_value.specs.declared.cell.Cell.TheViews.{out-Cell}
use Rattle.sp_value.specs.Depth as cells
use Rattle.sp_value.specs.declared.truth.Op.{Op}
use Rattle.sp_value.specs.declared.truth.Op.TheVariants.{Eq, Ne, Lt, Le, Gt, Ge}
use Rattle.sp_model.specs.Conditions.{is_canonical}
use Rattle.sp_model.specs.Sayable.{IsItem}
use Rattle.sp_model.specs.declared.call.Asked.{Asked}
use Rattle.sp_model.specs.declared.call.Asked.TheVariants as asked
use Rattle.sp_model.specs.declared.call.Call.{Call}
use Rattle.sp_model.specs.declared.call.Call.TheVariants as call
use Rattle.sp_model.specs.declared.call.CallKey.{CallKey}
use Rattle.sp_model.specs.declared.call.Condition.{Condition}
use Rattle.sp_world.specs.LineJson.{read_as, text_at, number_at}
use Rattle.sp_world.specs.ReplyLines.{is_shallow_object, item_of}
use Rattle.sp_world.specs.declared.line.LineFault.{LineFault}
use Rattle.sp_world.specs.declared.line.Request.{Request}
use Rattle.sp_world.specs.declared.line.Request.TheVariants.{Ask}
use Rattle.sp_world.specs.declared.operation.Operation.{Operation}
use Rattle.sp_world.specs.declared.operation.Operation.TheVariants as op

-- ---- written

abbrev pub natural : ℕ → Data
natural n = number (unsigned n)

abbrev pub operator_text : Op → List ℕ
operator_text Eq = codes "="
operator_text Ne = codes "<>"
operator_text Lt = codes "<"
operator_text Le = codes "<="
operator_text Gt = codes ">"
operator_text Ge = codes ">="

-- ["column", "operator", value]
abbrev pub condition_data : Condition → Data
condition_data c = array (items_of (string c.column ∷ string (operator_text c.operator) ∷ data_of c.value ∷ []))

abbrev pub conditions_data : List Condition → Data
conditions_data cs = array (items_of (map condition_data cs))

abbrev pub parent_data : Option Cell → Data
parent_data None = null
parent_data (Some parent) = data_of parent

abbrev pub function_data : Option (List ℕ) → Data
function_data None = null
function_data (Some name) = string name

abbrev pub selecting_before : CallKey → Data → Data → List (List ℕ × Data)
selecting_before key function conditions =
    (codes "attempt", natural key.attempt) ∷ (codes "conditions", conditions) ∷ (codes "connection", string key.connection) ∷ (codes "function", function) ∷ []

abbrev pub naming_before : CallKey → Data → List (List ℕ × Data)
naming_before key function = (codes "attempt", natural key.attempt) ∷ (codes "connection", string key.connection) ∷ (codes "function", function) ∷ []

abbrev pub list_behind : CallKey → List ℕ → Data → List (List ℕ × Data)
list_behind key table parent = (codes "op", string (codes "list")) ∷ (codes "parent", parent) ∷ (codes "table", string table) ∷ (codes "version", natural key.version) ∷ []

abbrev pub table_behind : List ℕ → CallKey → List ℕ → List (List ℕ × Data)
table_behind operation key table = (codes "op", string operation) ∷ (codes "table", string table) ∷ (codes "version", natural key.version) ∷ []

abbrev pub hydrate_behind : CallKey → List ℕ → Data → Data → List (List ℕ × Data)
hydrate_behind key table row results =
    (codes "item", row) ∷ (codes "op", string (codes "hydrate")) ∷ (codes "results", results) ∷ (codes "table", string table) ∷ (codes "version", natural key.version) ∷ []

abbrev pub connection_before : List ℕ → List (List ℕ × Data)
connection_before connection = (codes "connection", string connection) ∷ []

abbrev pub version_behind : ℕ → List (List ℕ × Data)
version_behind tick = (codes "op", string (codes "version")) ∷ (codes "tick", natural tick) ∷ []

abbrev pub declare_behind : List (List ℕ × Data)
declare_behind = (codes "op", string (codes "declare")) ∷ []

-- the members before the number: of a call its attempt, the conditions of a list or a get, the connection and the line's function
abbrev pub call_before : CallKey → Data → Call → List (List ℕ × Data)
call_before key function (call.List table conditions parent) = selecting_before key function (conditions_data conditions)
call_before key function (call.Parents table) = naming_before key function
call_before key function (call.Get table conditions) = selecting_before key function (conditions_data conditions)
call_before key function (call.Hydrate table own row results) = naming_before key function

abbrev pub members_before : Option (List ℕ) → Asked → List (List ℕ × Data)
members_before function (asked.Call key) = call_before key (function_data function) key.call
members_before function (asked.Version connection tick) = connection_before connection
members_before function (asked.Declare connection) = connection_before connection

-- those behind it
abbrev pub call_behind : CallKey → Call → List (List ℕ × Data)
call_behind key (call.List table conditions parent) = list_behind key table (parent_data parent)
call_behind key (call.Parents table) = table_behind (codes "parents") key table
call_behind key (call.Get table conditions) = table_behind (codes "get") key table
call_behind key (call.Hydrate table own row results) = hydrate_behind key table (data_of row) (object (pairs_data results))

abbrev pub members_behind : Asked → List (List ℕ × Data)
members_behind (asked.Call key) = call_behind key key.call
members_behind (asked.Version connection tick) = version_behind tick
members_behind (asked.Declare connection) = declare_behind

-- the JSON of a request: an object whose members stand in the order of their names
abbrev pub request_data : Request → Data
request_data (Ask id what function) = object (members_from (members_before function what ++ (codes "id", natural id) ∷ members_behind what))

-- its one spelling
abbrev pub request_text : Request → List ℕ
request_text r = compact_text (request_data r)

-- ---- read

abbrev pub operation_of : List ℕ → Option Operation
operation_of name =
    if bytes_eq name (codes "declare") then Some op.Declare
    else (if bytes_eq name (codes "version") then Some op.Version
    else (if bytes_eq name (codes "list") then Some op.List
    else (if bytes_eq name (codes "parents") then Some op.Parents
    else (if bytes_eq name (codes "get") then Some op.Get
    else (if bytes_eq name (codes "hydrate") then Some op.Hydrate else None)))))

abbrev pub operator_of : List ℕ → Option Op
operator_of text =
    if bytes_eq text (codes "=") then Some Eq
    else (if bytes_eq text (codes "<>") then Some Ne
    else (if bytes_eq text (codes "<") then Some Lt
    else (if bytes_eq text (codes "<=") then Some Le
    else (if bytes_eq text (codes ">") then Some Gt
    else (if bytes_eq text (codes ">=") then Some Ge else None)))))

abbrev pub scalar_of : Data → Option Cell
scalar_of (boolean b) = Some (cell.Bool b)
scalar_of (number n) = option_map cell.Int (as_i64 n)
scalar_of (string s) = Some (cell.Text s)
scalar_of _ = None

abbrev pub condition_from : Option (List ℕ) → Option Op → Option Cell → Option Condition
condition_from (Some column) (Some operator) (Some value) = Some (record { column = column; operator = operator; value = value })
condition_from _ _ _ = None

abbrev pub text_in : ℕ → Data → Option (List ℕ)
text_in place d = option_and_then as_str (at place d)

abbrev pub condition_of : Data → Option Condition
condition_of d = condition_from (text_in 0 d) (option_and_then operator_of (text_in 1 d)) (option_and_then scalar_of (at 2 d))

abbrev pub cons_condition : Option Condition → Option (List Condition) → Option (List Condition)
cons_condition (Some c) (Some cs) = Some (c ∷ cs)
cons_condition _ _ = None

abbrev pub condition_list : Items → Option (List Condition)
condition_list no_items = Some []
condition_list (item d ds) = cons_condition (condition_of d) (condition_list ds)

abbrev pub if_canonical : List Condition → Option (List Condition)
if_canonical cs = if is_canonical cs then Some cs else None

abbrev pub conditions_of : Data → Option (List Condition)
conditions_of (array ds) = option_and_then if_canonical (condition_list ds)
conditions_of _ = None

-- null for no parent
abbrev pub parent_of : Data → Option (Option Cell)
parent_of null = Some None
parent_of d = option_map Some (item_of d)

abbrev pub is_result : Data → Bool
is_result null = true
is_result d = is_shallow_object d

abbrev pub are_results : Members → Bool
are_results no_members = true
are_results (member name d ms) = is_result d && are_results ms

-- each value is null or an object that nests at most 100 deep
abbrev pub results_of : Data → Option (List (List ℕ × Cell))
results_of (object ms) = if are_results ms then pairs_of ms else None
results_of _ = None

abbrev pub list_from : List ℕ → Option (List Condition) → Option (Option Cell) → Option Call
list_from table (Some conditions) (Some parent) = Some (call.List table conditions parent)
list_from _ _ _ = None

abbrev pub hydrate_from : List ℕ → List ℕ → Option Cell → Option (List (List ℕ × Cell)) → Option Call
hydrate_from table function (Some row) (Some results) = Some (call.Hydrate table function row results)
hydrate_from _ _ _ _ = None

abbrev pub conditions_at : Data → Option (List Condition)
conditions_at d = option_and_then conditions_of (get (codes "conditions") d)

abbrev pub parent_at : Data → Option (Option Cell)
parent_at d = option_and_then parent_of (get (codes "parent") d)

abbrev pub item_at : Data → Option Cell
item_at d = option_and_then item_of (get (codes "item") d)

abbrev pub results_at : Data → Option (List (List ℕ × Cell))
results_at d = option_and_then results_of (get (codes "results") d)

abbrev pub call_of : Operation → List ℕ → List ℕ → Data → Option Call
call_of op.List table function d = list_from table (conditions_at d) (parent_at d)
call_of op.Parents table function d = Some (call.Parents table)
call_of op.Get table function d = option_map (call.Get table) (conditions_at d)
call_of op.Hydrate table function d = hydrate_from table function (item_at d) (results_at d)
call_of _ table function d = None

abbrev pub small : ℕ → Option ℕ
small n = if nat_lt n (2 ^ 32) then Some n else None

abbrev pub attempt_at : Data → Option ℕ
attempt_at d = option_and_then small (number_at (codes "attempt") d)

abbrev pub call_request : ℕ → List ℕ → ℕ → ℕ → List ℕ → Call → Request
call_request id connection version attempt function c = Ask id (asked.Call (record { connection = connection; version = version; call = c; attempt = attempt })) (Some function)

abbrev pub call_from : Operation → ℕ → List ℕ → Data → Option (List ℕ) → Option (List ℕ) → Option ℕ → Option ℕ → Option Request
call_from o id connection d (Some table) (Some function) (Some version) (Some attempt) = option_map (call_request id connection version attempt function) (call_of o table function d)
call_from o id connection d _ _ _ _ = None

abbrev pub version_request : ℕ → List ℕ → ℕ → Request
version_request id connection tick = Ask id (asked.Version connection tick) None

abbrev pub declare_request : ℕ → List ℕ → Request
declare_request id connection = Ask id (asked.Declare connection) None

abbrev pub request_by : Operation → ℕ → List ℕ → Data → Option Request
request_by op.Declare id connection d = Some (declare_request id connection)
request_by op.Version id connection d = option_map (version_request id connection) (number_at (codes "tick") d)
request_by o id connection d = call_from o id connection d (text_at (codes "table") d) (text_at (codes "function") d) (number_at (codes "version") d) (attempt_at d)

abbrev pub request_from : Option Operation → Option ℕ → Option (List ℕ) → Data → Option Request
request_from (Some o) (Some id) (Some connection) d = request_by o id connection d
request_from _ _ _ d = None

-- the request whose members an object has, among others
abbrev pub members_request : Data → Option Request
members_request d = request_from (option_and_then operation_of (text_at (codes "op") d)) (number_at (codes "id") d) (text_at (codes "connection") d) d

-- bytes are the request whose spelling they are
abbrev pub if_spelled : List ℕ → Request → Option Request
if_spelled bytes r = if bytes_eq (request_text r) bytes then Some r else None

abbrev pub request_in : List ℕ → Data → Option Request
request_in bytes d = option_and_then (if_spelled bytes) (members_request d)

-- the request that bytes are, or what they fail by
abbrev pub request_of : List ℕ → Result Request LineFault
request_of bytes = read_as (request_in bytes) bytes

-- ---- the form that is read again

abbrev pub IsParentForm : Option Cell → Type 0
IsParentForm None = Unit {0}
IsParentForm (Some parent) = IsItem parent

abbrev pub IsNullOrObject_at : Cell-F Cell → Type 0
IsNullOrObject_at Cell-F.Null = Unit {0}
IsNullOrObject_at (Cell-F.Object ms) = Unit {0}
IsNullOrObject_at _ = ⊥

-- null, or an object that nests at most 100 deep
abbrev pub IsResultForm : Cell → Type 0
IsResultForm c = IsNullOrObject_at (out-Cell c) × (cells.depth c ≤ 100)

abbrev pub AreResults : List (List ℕ × Cell) → Type 0
AreResults [] = Unit {0}
AreResults (m ∷ ms) = IsResultForm m.1 × AreResults ms

-- conditions are canonical, items, parents and results are objects that nest at most 100 deep, a result also null; a hydrate call's function is its own
abbrev pub IsCallForm : Option (List ℕ) → Call → Type 0
IsCallForm function (call.List table conditions parent) = IsSome function × (is_canonical conditions ≡ true) × IsParentForm parent
IsCallForm function (call.Parents table) = IsSome function
IsCallForm function (call.Get table conditions) = IsSome function × (is_canonical conditions ≡ true)
IsCallForm function (call.Hydrate table own row results) = (function ≡ Some own) × IsItem row × AreResults results

abbrev pub IsAskedForm : Option (List ℕ) → Asked → Type 0
IsAskedForm function (asked.Call key) = (key.version < 2 ^ 63) × IsCallForm function key.call
IsAskedForm function (asked.Version connection tick) = (tick < 2 ^ 63) × (function ≡ None)
IsAskedForm function (asked.Declare connection) = function ≡ None

abbrev pub IsRequestForm : Request → Type 0
IsRequestForm (Ask id what function) = (id < 2 ^ 63) × IsAskedForm function what
