-- The tables, items and replies of the worked values.
use Rattle.std.specs.Prelude.{◌≡◌, ℕ, pos, List, [], ◌∷◌, codes, Option, Some, None}
use Rattle.sp_value.specs.declared.cell.Cell.{Cell}
use Rattle.sp_value.specs.declared.cell.Cell as c
use Rattle.sp_value.specs.declared.kind.Kind.{Kind}
use Rattle.sp_value.specs.declared.kind.Kind.TheVariants as kind
use Rattle.sp_value.specs.declared.truth.Op.{Op}
use Rattle.sp_value.specs.declared.truth.Op.TheVariants as op
use Rattle.sp_model.specs.Calls.{used, reach}
use Rattle.sp_model.specs.Settling.{Answers}
use Rattle.sp_model.specs.Walk.{scan_walk, walk_value}
use Rattle.sp_model.specs.declared.call.Call.{Call}
use Rattle.sp_model.specs.declared.call.Condition.{Condition}
use Rattle.sp_model.specs.declared.call.Ending.{Ending}
use Rattle.sp_model.specs.declared.call.Ending.TheVariants.{End, Error}
use Rattle.sp_model.specs.declared.declaration.AccessDecl.{AccessDecl}
use Rattle.sp_model.specs.declared.declaration.Backoff.TheVariants.{Constant}
use Rattle.sp_model.specs.declared.declaration.ColumnDecl.{ColumnDecl}
use Rattle.sp_model.specs.declared.declaration.FunctionDecl.{FunctionDecl}
use Rattle.sp_model.specs.declared.declaration.GetDecl.{GetDecl}
use Rattle.sp_model.specs.declared.declaration.KeyDecl.{KeyDecl}
use Rattle.sp_model.specs.declared.declaration.ListDecl.{ListDecl}
use Rattle.sp_model.specs.declared.declaration.Matching.{Matching}
use Rattle.sp_model.specs.declared.declaration.Matching.TheVariants.{Subset, Exact}
use Rattle.sp_model.specs.declared.declaration.Need.{Need}
use Rattle.sp_model.specs.declared.declaration.Need.TheVariants.{Required, Optional, AnyOf}
use Rattle.sp_model.specs.declared.declaration.Retry.{Retry}
use Rattle.sp_model.specs.declared.declaration.TableDecl.{TableDecl}
use Rattle.sp_model.specs.declared.outcome.ScanValue.TheVariants.{Rows, Failed}
use Rattle.sp_model.specs.declared.scan.Access.{Access}
use Rattle.sp_model.specs.declared.scan.Cause.{Cause}
use Rattle.sp_model.specs.declared.scan.ScanRequest.{ScanRequest}
use Rattle.plain_program.specs.Known.{seen_of}
use Rattle.plain_program.specs.Script.{scripted}
use Rattle.plain_program.specs.declared.script.Written.{Written}

-- ---- values

abbrev pub number : ℕ → Cell
number n = c.Int (pos n)

-- `{"name": ..}`
abbrev pub named : List ℕ → Cell
named name = c.Object ((codes "name", c.Text name) ∷ [])

abbrev pub is : List ℕ → Op → Cell → Condition
is column operator value = record { column = column; operator = operator; value = value }

-- ---- declarations

-- an error that fits is asked again, three times in all
abbrev pub three_times : Option Retry
three_times = Some (record { patterns = codes "Throttled*" ∷ []; attempts = 3; backoff = Constant; interval = 10; cap = 1000000000 })

abbrev pub column : List ℕ → Kind → Option (List ℕ) → ColumnDecl
column name kind function = record { name = name; kind = kind; function = function; field = name }

abbrev pub key : List ℕ → List Op → Need → Matching → KeyDecl
key name operators need matching = record { column = name; operators = operators; need = need; matching = matching }

abbrev pub function_of : List ℕ → List (List ℕ) → Option Retry → FunctionDecl
function_of name depends retry = record { name = name; depends = depends; tags = []; ignore = None; retry = retry }

-- errors that fit `NotFound*` are ignored
abbrev pub list_of : List ℕ → List KeyDecl → Option AccessDecl → ListDecl
list_of function keys parent =
    record { function = function; keys = keys; parent = parent; tags = []; ignore = Some (codes "NotFound*" ∷ []); retry = three_times }

abbrev pub table_of : List ℕ → List ColumnDecl → Option ListDecl → Option GetDecl → List FunctionDecl → TableDecl
table_of name columns list get functions = record {
  name = name;
  columns = columns;
  list = list;
  get = get;
  functions = functions;
  ignore = None;
  retry = None;
  plugin = record { ignore = None; retry = None };
}

-- buckets, whose policy needs their acl
abbrev pub functions : List FunctionDecl
functions = function_of (codes "getAcl") [] three_times ∷ function_of (codes "getPolicy") (codes "getAcl" ∷ []) None ∷ []

abbrev pub bucket : TableDecl
bucket = table_of (codes "bucket")
    (column (codes "name") kind.Text None ∷ column (codes "acl") kind.Text (Some (codes "getAcl")) ∷ column (codes "policy") kind.Text (Some (codes "getPolicy")) ∷ [])
    (Some (list_of (codes "listBuckets") [] None)) None functions

-- objects, listed by their owners
abbrev pub object : TableDecl
object = table_of (codes "object") (column (codes "bucket") kind.Text None ∷ column (codes "name") kind.Text None ∷ [])
    (Some (list_of (codes "listObjects") [] (Some (record { function = codes "listOwners"; tags = []; ignore = None; retry = None })))) None []

abbrev pub get_of : List ℕ → List KeyDecl → GetDecl
get_of function keys = record { function = function; keys = keys; tags = []; ignore = None; retry = None }

abbrev pub item_keys : List KeyDecl
item_keys = key (codes "id") (op.Eq ∷ op.Gt ∷ []) Optional Subset ∷ []

-- items, with a list whose key only filters, and a get
abbrev pub item : TableDecl
item = table_of (codes "item") (column (codes "id") kind.Int None ∷ column (codes "name") kind.Text None ∷ [])
    (Some (list_of (codes "listItems") item_keys None)) (Some (get_of (codes "getItem") (key (codes "id") (op.Eq ∷ []) Required Exact ∷ []))) []

abbrev pub tag_keys : List KeyDecl
tag_keys = key (codes "bucket") (op.Eq ∷ []) Required Exact ∷ []

abbrev pub tag : TableDecl
tag = table_of (codes "tag") (column (codes "bucket") kind.Text None ∷ column (codes "label") kind.Text None ∷ []) (Some (list_of (codes "listTags") tag_keys None)) None []

abbrev pub event_keys : List KeyDecl
event_keys = key (codes "region") (op.Eq ∷ []) AnyOf Exact ∷ key (codes "zone") (op.Eq ∷ []) AnyOf Exact ∷ []

abbrev pub event : TableDecl
event = table_of (codes "event") (column (codes "region") kind.Text None ∷ column (codes "zone") kind.Text None ∷ column (codes "body") kind.Text None ∷ [])
    (Some (list_of (codes "listEvents") event_keys None)) None []

-- ---- requests

abbrev pub request_of : TableDecl → Access → List Condition → List (List ℕ) → Option ℕ → ScanRequest
request_of table access conditions columns limit = record {
  connection = codes "c";
  table = table.name;
  access = access;
  conditions = conditions;
  columns = columns;
  subset = [];
  limit = limit;
}

-- ---- replies that are written down

-- nothing is known of a call that isn't written down
abbrev pub answers_by : List Written → Answers
answers_by ws = λ asked. λ attempt. seen_of (scripted ws asked attempt)

abbrev pub written : List ℕ → List ℕ → ℕ → List Cell → Ending → Written
written function subject attempt items ending = record { function = function; subject = subject; attempt = attempt; reply = record { items = items; ending = ending } }

abbrev pub ends : List ℕ → List ℕ → ℕ → List Cell → Written
ends function subject attempt items = written function subject attempt items End

abbrev pub refused : List ℕ → List ℕ → ℕ → List Cell → List ℕ → Written
refused function subject attempt items text = written function subject attempt items (Error text)

-- ---- what a scan comes to

-- rows
abbrev pub Gives : TableDecl → ScanRequest → Answers → List (List Cell) → Type 0
Gives table request answers rows = walk_value (scan_walk table request answers) ≡ Some (Rows rows)

-- the first failure: its row, its column and its cause
abbrev pub FailsAt : TableDecl → ScanRequest → Answers → ℕ → Option (List ℕ) → Cause → Type 0
FailsAt table request answers row name cause = walk_value (scan_walk table request answers) ≡ Some (Failed row name cause)

-- exactly these calls are used, and these are reached
abbrev pub Calls : TableDecl → ScanRequest → Answers → List (Call × ℕ) → List (Call × ℕ) → Type 0
Calls table request answers uses reaches = (used table request answers ≡ uses) × (reach table request answers ≡ reaches)
