-- Which step of a scan is the next.
use Rattle.std.specs.Prelude.{◌≡◌, ◌<◌, ℕ, Bool, true, false, List, [], ◌∷◌, length, Some, None}
use Rattle.sp_value.specs.declared.cell.Cell.{Cell}
use Rattle.sp_model.specs.Settling.{Verdict, Accept, Again, Refuse, judged}
use Rattle.sp_model.specs.Walk.{Source, parent_source, parent_of}
use Rattle.sp_model.specs.declared.call.Ending.{Ending}
use Rattle.sp_model.specs.declared.declaration.TableDecl.{TableDecl}
use Rattle.sp_model.specs.declared.outcome.Row.{Row}
use Rattle.sp_model.specs.declared.scan.ScanRequest.{ScanRequest}
use Rattle.scan_laws.specs.States.{Outer, Inner, FlightRow, Scan}
use Rattle.scan_core.specs.Advances.{row_now, AllDecided, is_too_many, InnerEnds, OuterEnds, Finishes, Step}
use Rattle.scan_core.specs.declared.step.NextStep.{NextStep}
use Rattle.scan_core.specs.declared.step.NextStep.TheVariants.{Decide, Fill, AcceptItems, AskItems, RefuseItems, TooManyItems, BeginList, AcceptParents, AskParents, RefuseParents, Finish, Wait}

-- the first row in flight is whole or fails
pub record FirstIsDecided (table : TableDecl) (request : ScanRequest) (st : Scan) : Type 0 where
  pub row : FlightRow
  pub rows : List FlightRow
  pub first : st.flight ≡ row ∷ rows
  pub seen : Row
  pub known : row_now table request row ≡ Some seen

-- an item waits, and there is room for its row
pub record HasItem (window : ℕ) (st : Scan) : Type 0 where
  pub item : Cell
  pub waiting : List Cell
  pub first : st.waiting ≡ item ∷ waiting
  pub room : length st.flight < window

-- the ending of the inner call came and means this
pub record InnerSays (st : Scan) (v : Verdict) (many : Bool) : Type 0 where
  pub inner : Inner
  pub ending : Ending
  pub is : st.inner ≡ Some inner
  pub came : inner.ending ≡ Some ending
  pub means : judged inner.source.rule inner.attempt (Some ending) ≡ v
  pub counts : is_too_many inner (length st.inside) ≡ many

-- no list is open, and a parent waits
pub record HasParent (st : Scan) : Type 0 where
  pub outer : Outer
  pub parent : Cell
  pub parents : List Cell
  pub is : st.outer ≡ Some outer
  pub closed : st.inner ≡ None
  pub first : outer.waiting ≡ parent ∷ parents

-- no list is open, no parent waits, and the ending of the parents call came and means this
pub record OuterSays (source : Source) (st : Scan) (v : Verdict) : Type 0 where
  pub outer : Outer
  pub ending : Ending
  pub is : st.outer ≡ Some outer
  pub closed : st.inner ≡ None
  pub walked : outer.waiting ≡ []
  pub came : outer.ending ≡ Some ending
  pub means : judged source.rule outer.attempt (Some ending) ≡ v

abbrev pub outer_source : TableDecl → Source
outer_source table = parent_source table (parent_of table.list)

-- the scan goes on by no rule: each step would need a row in flight that there is no room for
abbrev pub IsStill : TableDecl → ScanRequest → ℕ → Scan → Type 0
IsStill table request window st = (t : Scan) → Step table request window st t → ⊥

-- what the calls of items and of parents say
abbrev pub NoItemsStep : Scan → Type 0
NoItemsStep st = (t : Scan) → InnerEnds st t → ⊥

abbrev pub NoParentsStep : TableDecl → ScanRequest → Scan → Type 0
NoParentsStep table request st = (HasParent st → ⊥) × ((t : Scan) → OuterEnds table st t → ⊥) × ((t : Scan) → Finishes st t → ⊥)

-- the next step by the ending of the inner call
abbrev pub IsItemsNext : Scan → NextStep → Type 0
IsItemsNext st AcceptItems = InnerSays st Accept false
IsItemsNext st (AskItems delay) = (many : Bool) × InnerSays st Again many × AllDecided st
IsItemsNext st RefuseItems = (many : Bool) × (text : List ℕ) × InnerSays st (Refuse text) many × AllDecided st
IsItemsNext st TooManyItems = InnerSays st Accept true × AllDecided st
IsItemsNext st Wait = NoItemsStep st
IsItemsNext st _ = ⊥

-- by the parents, where no list is open
abbrev pub IsParentsNext : TableDecl → ScanRequest → Scan → NextStep → Type 0
IsParentsNext table request st BeginList = HasParent st
IsParentsNext table request st AcceptParents = OuterSays (outer_source table) st Accept
IsParentsNext table request st (AskParents delay) = OuterSays (outer_source table) st Again × (st.first ≡ [])
IsParentsNext table request st RefuseParents = (text : List ℕ) × OuterSays (outer_source table) st (Refuse text) × (st.first ≡ [])
IsParentsNext table request st Finish = (st.outer ≡ None) × (st.inner ≡ None) × (st.first ≡ [])
IsParentsNext table request st Wait = NoParentsStep table request st
IsParentsNext table request st _ = ⊥

-- the next step: the first row, else the next item, else the inner call, else the parents
abbrev pub IsNext : TableDecl → ScanRequest → ℕ → Scan → NextStep → Type 0
IsNext table request window st Decide = FirstIsDecided table request st
IsNext table request window st Fill = HasItem window st
IsNext table request window st AcceptItems = InnerSays st Accept false
IsNext table request window st (AskItems delay) = (many : Bool) × InnerSays st Again many × AllDecided st
IsNext table request window st RefuseItems = (many : Bool) × (text : List ℕ) × InnerSays st (Refuse text) many × AllDecided st
IsNext table request window st TooManyItems = InnerSays st Accept true × AllDecided st
IsNext table request window st BeginList = HasParent st
IsNext table request window st AcceptParents = OuterSays (outer_source table) st Accept
IsNext table request window st (AskParents delay) = OuterSays (outer_source table) st Again × (st.first ≡ [])
IsNext table request window st RefuseParents = (text : List ℕ) × OuterSays (outer_source table) st (Refuse text) × (st.first ≡ [])
IsNext table request window st Finish = (st.outer ≡ None) × (st.inner ≡ None) × (st.first ≡ [])
IsNext table request window st Wait = IsStill table request window st
