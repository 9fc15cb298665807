-- What is known of the items, attempts and rows of a scan, whatever is answered.
use Rattle.std.specs.Prelude.{◌≡◌, ◌≤◌, ℕ, suc, List, [], ◌∷◌, length, get_or, Option, Some, None}
use Rattle.sp_value.specs.declared.cell.Cell.{Cell}
use Rattle.sp_model.specs.Calls.{child_call}
use Rattle.sp_model.specs.Sayable.{IsItem}
use Rattle.sp_model.specs.Settling.{attempts_of}
use Rattle.sp_model.specs.declared.call.Call.{Call}
use Rattle.sp_model.specs.declared.call.Call.TheVariants as call
use Rattle.sp_model.specs.declared.declaration.Rule.{Rule}
use Rattle.sp_model.specs.declared.declaration.TableDecl.{TableDecl}
use Rattle.sp_model.specs.declared.outcome.Outcome.{Outcome}
use Rattle.sp_model.specs.declared.outcome.Outcome.TheVariants.{Gave, Fails}
use Rattle.sp_model.specs.declared.outcome.WalkState.{WalkState}
use Rattle.sp_model.specs.declared.scan.Access.{Access}
use Rattle.sp_model.specs.declared.scan.Access.TheVariants.{Get, List as OfList, Parents}
use Rattle.sp_model.specs.declared.scan.ScanRequest.{ScanRequest}
use Rattle.sp_world.specs.RequestLines.{IsResultForm}
use Rattle.hydrate_graph.specs.Graphs.{Plan, rules_in}
use Rattle.hydrate_graph.specs.Plans.{AreApart}
use Rattle.row_flight.specs.Flying.{Seated}
use Rattle.row_flight.specs.Rows.{attempt_of, rule_at}
use Rattle.row_flight.specs.declared.attempt.Attempt.{Attempt}
use Rattle.row_flight.specs.declared.row.RowCalls.{RowCalls}
use Rattle.scan_laws.specs.States.{Outer, Inner, Scan}
use Rattle.scan_core.specs.Calls.{items_source}
use Rattle.scan_core.specs.Courses.{state_of, table_of}
use Rattle.scan_core.specs.Going.{IsIn}
use Rattle.scan_core.specs.Next.{outer_source}
use Rattle.scan_core.specs.declared.course.Course.{Course}
use Rattle.scan_core.specs.declared.scope.ScanScope.{ScanScope}

-- ---- items and calls

abbrev pub AreItems : List Cell → Type 0
AreItems [] = Unit {0}
AreItems (x ∷ xs) = IsItem x × AreItems xs

-- each row has so many cells
abbrev pub AreWide : ℕ → List (List Cell) → Type 0
AreWide n [] = Unit {0}
AreWide n (row ∷ rows) = (length row ≡ n) × AreWide n rows

-- the call of an access, of a child list that of an item
abbrev pub IsAskedBy : Access → TableDecl → ScanRequest → Call → Type 0
IsAskedBy Get table request asked = asked ≡ call.Get table.name request.conditions
IsAskedBy OfList table request asked = asked ≡ call.List table.name request.conditions None
IsAskedBy Parents table request asked = (parent : Cell) × IsItem parent × (asked ≡ child_call table request parent)

-- a call of the request, in an attempt that its rule has
pub record IsInnerForm (table : TableDecl) (request : ScanRequest) (i : Inner) : Type 0 where
  pub source : i.source ≡ items_source request.access table
  pub first : 1 ≤ i.attempt
  pub last : i.attempt ≤ attempts_of i.source.rule.retry
  pub asked : IsAskedBy request.access table request i.asked
  pub entered : (s : WalkState) → i.entered ≡ Some s → AreWide (length request.columns) s.rows

pub record IsOuterForm (table : TableDecl) (request : ScanRequest) (o : Outer) : Type 0 where
  pub access : request.access ≡ Parents
  pub first : 1 ≤ o.attempt
  pub last : o.attempt ≤ attempts_of (outer_source table).rule.retry
  pub items : AreItems o.waiting

pub record IsStateForm (table : TableDecl) (request : ScanRequest) (st : Scan) : Type 0 where
  pub inner : (i : Inner) → st.inner ≡ Some i → IsInnerForm table request i
  pub outer : (o : Outer) → st.outer ≡ Some o → IsOuterForm table request o
  pub items : AreItems st.waiting
  pub rows : AreWide (length request.columns) st.now.rows

-- ---- rows in flight

-- what a function gave is null or an item
abbrev pub IsResultOutcome : Option Outcome → Type 0
IsResultOutcome None = Unit {0}
IsResultOutcome (Some (Gave x)) = IsResultForm x
IsResultOutcome (Some (Fails cause)) = Unit {0}

-- an attempt that the rule has, and what came of it is an item
pub record IsAttemptForm (rule : Rule) (a : Attempt) : Type 0 where
  pub last : suc a.tries ≤ attempts_of rule.retry
  pub item : (x : Cell) → a.item ≡ Some x → IsItem x

pub record IsRowForm (plan : Plan) (row : RowCalls) : Type 0 where
  pub of_plan : row.graph.plan ≡ plan
  pub item : IsItem row.graph.item
  pub gave : (k : ℕ) → IsResultOutcome (get_or row.graph.settled k None)
  pub attempts : (k : ℕ) → IsAttemptForm (rule_at plan k) (attempt_of row k)

-- a plan of the table's functions, each with a slot of its own, and with an attempt at least
pub record IsPlanForm (table : TableDecl) (plan : Plan) : Type 0 where
  pub functions : plan.functions ≡ table.functions
  pub rules : plan.rules ≡ rules_in table table.functions
  pub count : length plan.slots ≡ length plan.functions
  pub apart : AreApart plan.slots
  pub attempts : (k : ℕ) → 1 ≤ attempts_of (rule_at plan k).retry

-- ---- a scan

pub record IsForm {X : Type 0} (scope : ScanScope) (c : Course X) : Type 0 where
  pub state : IsStateForm (table_of scope) scope.request (state_of scope c)
  pub plan : IsPlanForm (table_of scope) c.flight.plan
  pub rows : (s : Seated) → IsIn s c.flight.rows → IsRowForm c.flight.plan s.row
  pub connection : c.flight.frame.connection ≡ scope.request.connection
  pub version : c.flight.frame.version ≡ scope.version
