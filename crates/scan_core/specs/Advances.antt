-- How a scan goes on by itself, with what came so far: its rules, one step at a time.
use Rattle.std.specs.Prelude.{◌≡◌, ◌<◌, ℕ, suc, Bool, true, false, ◌&&◌, ◌+◌, nat_lt, List, [], ◌∷◌, length, Option, Some, None}
use Rattle.sp_value.specs.declared.cell.Cell.{Cell}
use Rattle.sp_model.specs.RowOf.{columns_named, row_of}
use Rattle.sp_model.specs.Settling.{Verdict, Accept, Again, Refuse, Open, judged}
use Rattle.sp_model.specs.Walk.{with_row, Source, parent_source, parent_of}
use Rattle.sp_model.specs.declared.call.Ending.{Ending}
use Rattle.sp_model.specs.declared.declaration.TableDecl.{TableDecl}
use Rattle.sp_model.specs.declared.outcome.Row.{Row}
use Rattle.sp_model.specs.declared.outcome.Walk.{Walk}
use Rattle.sp_model.specs.declared.outcome.Walk.TheVariants.{Going, Full, Failed, Waiting}
use Rattle.sp_model.specs.declared.scan.Cause.TheVariants.{Error, TooMany}
use Rattle.sp_model.specs.declared.scan.ScanRequest.{ScanRequest}
use Rattle.scan_laws.specs.Flights.{status}
use Rattle.scan_laws.specs.States.{Outer, Inner, FlightRow, Scan}
use Rattle.scan_laws.specs.Steps.{in_flight, past, ended_so, inner_accepted, inner_again, child_begun, outer_accepted, outer_again, finished}

-- ---- rows

-- the row of a row in flight, as far as its functions are known
abbrev pub row_now : TableDecl → ScanRequest → FlightRow → Option Row
row_now table request row = row_of (status table row) (columns_named request.columns table.columns) row.item

-- where the walk of the first row leads, there the scan stands
abbrev pub StandsBy : Scan → List FlightRow → Walk → Scan → Type 0
StandsBy st rows (Going s) t = t ≡ past st rows s None
StandsBy st rows (Full s) t = t ≡ past st rows s (Some (Full s))
StandsBy st rows (Failed number column cause) t = t ≡ ended_so st (Failed number column cause)
StandsBy st rows Waiting t = ⊥

-- the first row in flight is whole or fails
pub record Decides (table : TableDecl) (request : ScanRequest) (st t : Scan) : Type 0 where
  pub row : FlightRow
  pub rows : List FlightRow
  pub first : st.flight ≡ row ∷ rows
  pub seen : Row
  pub known : row_now table request row ≡ Some seen
  pub stands : StandsBy st rows (with_row request.conditions (columns_named request.columns table.columns) request.limit (Some seen) st.now) t

-- the first item that waits goes into flight, where there is room for its row
pub record Fills (window : ℕ) (st t : Scan) : Type 0 where
  pub item : Cell
  pub waiting : List Cell
  pub first : st.waiting ≡ item ∷ waiting
  pub room : length st.flight < window
  pub stands : t ≡ in_flight st item waiting

-- ---- calls

-- every item that came is decided
abbrev pub AllDecided : Scan → Type 0
AllDecided st = (st.first ≡ []) × (st.inside ≡ [])

-- a get gave more than one item
abbrev pub is_too_many : Inner → ℕ → Bool
is_too_many i undecided = i.source.single && nat_lt 1 (i.decided + undecided)

-- what an ending of the inner call means for the scan: an accepted call is over at once, and else all of its items have to be decided
abbrev pub InnerStands : Scan → Inner → Verdict → Bool → Scan → Type 0
InnerStands st i Accept false t = t ≡ inner_accepted st
InnerStands st i Accept true t = AllDecided st × (t ≡ ended_so st (Failed (suc st.now.items) None (TooMany i.source.function i.decided)))
InnerStands st i Again many t = AllDecided st × (t ≡ inner_again st i)
InnerStands st i (Refuse text) many t = AllDecided st × (t ≡ ended_so st (Failed (suc st.now.items) None (Error i.source.function i.attempt text)))
InnerStands st i Open many t = ⊥

pub record InnerEnds (st t : Scan) : Type 0 where
  pub inner : Inner
  pub ending : Ending
  pub is : st.inner ≡ Some inner
  pub came : inner.ending ≡ Some ending
  pub stands : InnerStands st inner (judged inner.source.rule inner.attempt (Some ending)) (is_too_many inner (length st.inside)) t

-- the list of the next parent begins once no list is open
pub record ChildBegins (table : TableDecl) (request : ScanRequest) (st t : Scan) : Type 0 where
  pub outer : Outer
  pub parent : Cell
  pub parents : List Cell
  pub is : st.outer ≡ Some outer
  pub closed : st.inner ≡ None
  pub first : outer.waiting ≡ parent ∷ parents
  pub stands : t ≡ child_begun table request st outer parent parents

-- what the ending of the parents call means for the scan
abbrev pub OuterStands : Source → Scan → Outer → Verdict → Scan → Type 0
OuterStands source st o Accept t = t ≡ outer_accepted st
OuterStands source st o Again t = (st.first ≡ []) × (t ≡ outer_again st o)
OuterStands source st o (Refuse text) t = (st.first ≡ []) × (t ≡ ended_so st (Failed (suc st.now.items) None (Error source.function o.attempt text)))
OuterStands source st o Open t = ⊥

-- it counts once the lists of all parents have ended
pub record OuterEnds (table : TableDecl) (st t : Scan) : Type 0 where
  pub outer : Outer
  pub ending : Ending
  pub is : st.outer ≡ Some outer
  pub closed : st.inner ≡ None
  pub walked : outer.waiting ≡ []
  pub came : outer.ending ≡ Some ending
  pub stands : OuterStands (parent_source table (parent_of table.list)) st outer (judged (parent_source table (parent_of table.list)).rule outer.attempt (Some ending)) t

-- nothing is left
pub record Finishes (st t : Scan) : Type 0 where
  pub outer : st.outer ≡ None
  pub inner : st.inner ≡ None
  pub decided : st.first ≡ []
  pub stands : t ≡ finished st

-- ---- steps

-- one step of a scan, with at most so many rows in flight
pub data Step (table : TableDecl) (request : ScanRequest) (window : ℕ) (st t : Scan) : Type 0 where
  RowDecides : Decides table request st t → Step table request window st t
  ItemFills : Fills window st t → Step table request window st t
  CallEnds : InnerEnds st t → Step table request window st t
  ListBegins : ChildBegins table request st t → Step table request window st t
  ParentsEnd : OuterEnds table st t → Step table request window st t
  NothingIsLeft : Finishes st t → Step table request window st t

-- steps through these states, each of a scan that isn't decided
abbrev pub Runs : TableDecl → ScanRequest → ℕ → List Scan → Scan → Scan → Type 0
Runs table request window [] st t = t ≡ st
Runs table request window (u ∷ us) st t = (st.end ≡ None) × Step table request window st u × Runs table request window us u t

-- the second state comes of the first by steps
pub record Advances (table : TableDecl) (request : ScanRequest) (window : ℕ) (st t : Scan) : Type 0 where
  pub through : List Scan
  pub runs : Runs table request window through st t
