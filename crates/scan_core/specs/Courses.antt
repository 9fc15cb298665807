-- The fields of a scan as the state that the laws speak of.
use Rattle.std.specs.Prelude.{◌≡◌, ◌≤◌, ◌+◌, ℕ, Bool, true, false, List, [], ◌++◌, length, take, drop, Option, Some, None}
use Rattle.std.specs.Arc.{arc_value}
use Rattle.sp_value.specs.declared.cell.Cell.{Cell}
use Rattle.sp_model.specs.Walk.{parent_source, parent_of}
use Rattle.sp_model.specs.declared.call.Call.TheVariants as calls
use Rattle.sp_model.specs.declared.call.CallKey.{CallKey}
use Rattle.sp_model.specs.declared.declaration.TableDecl.{TableDecl}
use Rattle.sp_model.specs.declared.outcome.Walk.{Walk}
use Rattle.sp_model.specs.declared.outcome.Walk.TheVariants.{Going, Full, Failed as FailedAt}
use Rattle.sp_model.specs.declared.outcome.WalkState.{WalkState}
use Rattle.sp_model.specs.declared.scan.Access.TheVariants as access
use Rattle.row_flight.specs.Flying.{rows_of, IsOf}
use Rattle.scan_laws.specs.Scans.{items_of}
use Rattle.scan_laws.specs.States.{Scan}
use Rattle.scan_core.specs.Calls.{source_of, items_source, inner_view, outer_view}
use Rattle.scan_core.specs.declared.calls.Entry.{Entry}
use Rattle.scan_core.specs.declared.calls.ItemsCall.{ItemsCall}
use Rattle.scan_core.specs.declared.calls.OpenCall.{OpenCall}
use Rattle.scan_core.specs.declared.calls.ParentsCall.{ParentsCall}
use Rattle.scan_core.specs.declared.course.Course.{Course}
use Rattle.scan_core.specs.declared.course.CourseEnd.{CourseEnd}
use Rattle.scan_core.specs.declared.course.CourseEnd.TheVariants.{Complete, Limited, Failed}
use Rattle.scan_core.specs.declared.scope.ScanScope.{ScanScope}

abbrev pub end_view : WalkState → Option CourseEnd → Option Walk
end_view now None = None
end_view now (Some Complete) = Some (Going now)
end_view now (Some Limited) = Some (Full now)
end_view now (Some (Failed row column cause)) = Some (FailedAt row column cause)

-- the items that came and aren't decided: those in flight, and those that wait
abbrev pub undecided : {X : Type 0} → Course X → List Cell
undecided c = items_of (rows_of c.flight) ++ c.waiting.items

abbrev pub state_of : {X : Type 0} → ScanScope → Course X → Scan
state_of scope c = record {
  outer = outer_view c.parents;
  inner = inner_view scope.items c.walk c.items;
  first = take c.before (undecided c);
  inside = drop c.before (undecided c);
  flight = rows_of c.flight;
  waiting = c.waiting.items;
  now = c.walk;
  end = end_view c.walk c.end;
}

abbrev pub table_of : ScanScope → TableDecl
table_of scope = arc_value scope.table

-- the calls' functions and rules are those of the table
pub record IsScope (scope : ScanScope) : Type 0 where
  pub items : source_of scope.items ≡ items_source scope.request.access (table_of scope)
  pub parents : source_of scope.parents ≡ parent_source (table_of scope) (parent_of (table_of scope).list)

-- a call of the request's connection at the version, in an attempt that counts from 1
pub record IsCallOf (scope : ScanScope) (key : CallKey) : Type 0 where
  pub connection : key.connection ≡ scope.request.connection
  pub version : key.version ≡ scope.version
  pub attempt : 1 ≤ key.attempt

-- every item that was fed was handed on, and no piece that comes next is at a later place
pub record IsOpenCall (scope : ScanScope) {X : Type 0} (c : OpenCall X) : Type 0 where
  pub connection : c.stream.call.connection ≡ scope.request.connection
  pub version : c.stream.call.version ≡ scope.version
  pub attempt : 1 ≤ c.stream.call.attempt
  pub next : c.stream.next ≤ c.stream.have
  pub few : c.stream.have ≤ 999999
  pub drained : c.stream.waiting ≡ []

-- after the decided items of the call come the undecided ones behind those in front
pub record IsItemsCall (scope : ScanScope) (before undecided kept : ℕ) {X : Type 0} (c : ItemsCall X) : Type 0 where
  pub call : IsOpenCall scope c.call
  pub have : before + c.call.stream.have ≡ c.call.taken + undecided
  pub entered : (e : Entry) → c.entered ≡ Some e → e.rows ≤ kept

pub record IsParentsCall (scope : ScanScope) {X : Type 0} (c : ParentsCall X) : Type 0 where
  pub call : IsOpenCall scope c.call
  pub access : scope.request.access ≡ access.Parents
  pub asked : c.call.stream.call.call ≡ calls.Parents (table_of scope).name
  pub have : c.call.stream.have ≡ c.call.taken + length c.waiting.items

-- the fields of a scan fit together
pub record IsCourse {X : Type 0} (scope : ScanScope) (c : Course X) : Type 0 where
  pub front : c.before ≤ length (undecided c)
  pub closed : c.items ≡ None → c.before ≡ length (undecided c)
  pub items : (i : ItemsCall X) → c.items ≡ Some i → IsItemsCall scope c.before (length (undecided c)) (length c.walk.rows) i
  pub parents : (o : ParentsCall X) → c.parents ≡ Some o → IsParentsCall scope o
  pub flight : IsOf (table_of scope) scope.request c.flight
  pub window : c.flight.window ≡ scope.window
  pub room : length c.flight.rows ≤ scope.window
  pub few : scope.window ≤ 4096

-- the end of a scan whose limit is reached, or that goes on
abbrev pub end_if : Bool → Option CourseEnd
end_if true = Some Limited
end_if false = None

-- the state in which a call is entered now
abbrev pub entry_now : WalkState → Entry
entry_now s = record { rows = length s.rows; items = s.items; steady = s.steady }

-- the walk's state once a row is kept or left out, and whether it reached the limit
abbrev pub went_on : Bool → WalkState → Walk
went_on true s = Full s
went_on false s = Going s

-- rows are only added
abbrev pub Grows : WalkState → WalkState → Type 0
Grows s u = (n : ℕ) → n ≤ length s.rows → (take n u.rows ≡ take n s.rows) × (n ≤ length u.rows)
