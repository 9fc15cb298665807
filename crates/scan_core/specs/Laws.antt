-- What the steps of a scan mean by whatever is answered.
use Rattle.std.specs.Prelude.{◌≡◌, ◌≤◌, ℕ, List, [], ◌∷◌, ◌++◌, Option, Some, None}
use Rattle.sp_model.specs.Settling.{Answers}
use Rattle.sp_model.specs.declared.call.Call.TheVariants as call
use Rattle.sp_model.specs.declared.call.Piece.{Piece}
use Rattle.sp_model.specs.declared.declaration.TableDecl.{TableDecl}
use Rattle.sp_model.specs.declared.scan.ScanRequest.{ScanRequest}
use Rattle.row_flight.specs.Hearing.{IsPieceOfSeen}
use Rattle.scan_laws.specs.Flights.{AreApart}
use Rattle.scan_laws.specs.Scans.{Agrees, Keeps, items_of}
use Rattle.scan_laws.specs.States.{Outer, Inner, FlightRow, Scan}
use Rattle.scan_core.specs.Advances.{row_now, Advances}
use Rattle.scan_core.specs.Hearing.{inner_heard, InnerTakes, outer_heard, OuterTakes}
use Rattle.scan_core.specs.Next.{IsStill}

-- whatever the scan agrees with, it agrees with after its steps, and they list nothing
abbrev pub ScanGoesOn : Type 0
ScanGoesOn = (table : TableDecl) (request : ScanRequest) (window : ℕ) (answers : Answers) (st t : Scan) → AreApart table → Agrees table request answers st → Advances table request window st t → Keeps table request answers st t []

-- a piece of what is answered keeps it so
abbrev pub PieceIsTakenIn : Type 0
PieceIsTakenIn = (table : TableDecl) (request : ScanRequest) (answers : Answers) (st : Scan) (i : Inner) (p : Piece) → Agrees table request answers st → st.end ≡ None → st.inner ≡ Some i → InnerTakes st i p → IsPieceOfSeen (answers i.asked i.attempt) p
    → Keeps table request answers st (inner_heard st i p) []

abbrev pub ParentsPieceIsTakenIn : Type 0
ParentsPieceIsTakenIn = (table : TableDecl) (request : ScanRequest) (answers : Answers) (st : Scan) (o : Outer) (p : Piece) → Agrees table request answers st → st.end ≡ None → st.outer ≡ Some o → OuterTakes o p
    → IsPieceOfSeen (answers (call.Parents table.name) o.attempt) p → Keeps table request answers st (outer_heard st o p) []

-- ---- a scan that waits

abbrev pub CallIsOpen : Option Outer → Option Inner → Type 0
CallIsOpen outer (Some i) = i.ending ≡ None
CallIsOpen (Some o) None = (o.waiting ≡ []) × (o.ending ≡ None)
CallIsOpen None None = ⊥

abbrev pub IsOpenBy : TableDecl → ScanRequest → Scan → List FlightRow → Type 0
IsOpenBy table request st (row ∷ rows) = row_now table request row ≡ None
IsOpenBy table request st [] = (st.first ≡ []) × (st.inside ≡ []) × (st.waiting ≡ []) × CallIsOpen st.outer st.inner

-- The first undecided place isn't answered: that is the first row in flight, or else the next item or the ending of the inner call, or else those of the parents call.
abbrev pub IsOpen : TableDecl → ScanRequest → Scan → Type 0
IsOpen table request st = IsOpenBy table request st st.flight

-- a scan that goes on by no rule waits for that place
abbrev pub StillScanIsOpen : Type 0
StillScanIsOpen = (table : TableDecl) (request : ScanRequest) (window : ℕ) (st : Scan) → 1 ≤ window → st.first ++ st.inside ≡ items_of st.flight ++ st.waiting → IsStill table request window st → IsOpen table request st
