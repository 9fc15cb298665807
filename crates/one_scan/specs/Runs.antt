-- What a scan lists, from its beginning on.
use Rattle.std.specs.Prelude.{◌≡◌, Bool, true, false, List, [], ◌∷◌, ◌++◌, Option, Some, None, IsSome}
use Rattle.sp_model.specs.Book.{Book}
use Rattle.sp_model.specs.Calls.{used, reach}
use Rattle.sp_model.specs.Settling.{answers_of}
use Rattle.sp_model.specs.declared.call.Version.{Version}
use Rattle.sp_model.specs.declared.call.Version.TheVariants.{Is, Bad}
use Rattle.sp_model.specs.declared.declaration.TableDecl.{TableDecl}
use Rattle.sp_model.specs.declared.outcome.Walk.TheVariants.{Failed}
use Rattle.sp_model.specs.declared.scan.Cause.TheVariants.{BadVersion}
use Rattle.sp_model.specs.declared.scan.ScanRequest.{ScanRequest}
use Rattle.model_laws.specs.LawfulScans.{is_lawful_scan}
use Rattle.row_flight.specs.Jobs.{IsAllListed}
use Rattle.scan_laws.specs.Counts.{IsWithin}
use Rattle.scan_laws.specs.Reaching.{Made}
use Rattle.scan_laws.specs.Scans.{Keeps}
use Rattle.scan_laws.specs.States.{Scan}
use Rattle.scan_laws.specs.Steps.{begin_of}
use Rattle.scan_core.specs.Laws.{IsOpen}
use Rattle.one_scan.specs.Views.{Present, ScanView, SameScan, scan_state}

-- ---- the state

-- where a scan stands at the beginning: a bad version fails before the first row
abbrev pub state_at : TableDecl → ScanRequest → Version → Scan
state_at table request (Is v) = begin_of table request
state_at table request (Bad text) = record (begin_of table request) { end = Some (Failed 0 None (BadVersion text)) }

-- A scan without an end, to which memory isn't wanting, waits: the first undecided place of its walk isn't answered.
abbrev pub IsWaiting : ScanView → Type 0
IsWaiting s = s.wanting ≡ false → s.end ≡ None → IsOpen s.table s.request (scan_state s)

-- ---- what is listed

-- the call whose items are asked for is listed: the get, list or child list, and where none is open the parents call
abbrev pub CallIsListed : Option Present → Option Present → Type 0
CallIsListed (Some i) parents = i.listed ≡ true
CallIsListed None (Some o) = o.listed ≡ true
CallIsListed None None = Unit {0}

-- each call that the scan waits for is listed
abbrev pub IsListed : ScanView → Type 0
IsListed s = s.end ≡ None → CallIsListed s.items s.parents × IsAllListed s.flight

abbrev pub GoesAt : Book → Version → ScanView → ScanView → List Made → Type 0
GoesAt book (Is v) s t made = Keeps s.table s.request (answers_of book s.request.connection v) (scan_state s) (scan_state t) made
GoesAt book (Bad text) s t made = (scan_state t ≡ scan_state s) × (made ≡ [])

-- the scan goes on in agreement with what the book answers at its version, and these calls are listed with their attempts
abbrev pub Goes : Book → ScanView → ScanView → List Made → Type 0
Goes book s t made = GoesAt book s.version s t made

-- ---- a run

-- the scan goes from state to state, each with the calls that are listed on the way there
abbrev pub IsRun : Book → List (ScanView × List Made) → ScanView → ScanView → Type 0
IsRun book [] s t = t ≡ s
IsRun book (step ∷ steps) s t = SameScan s step.0 × Goes book s step.0 step.1 × IsRun book steps step.0 t

-- all calls that are listed in a run
abbrev pub listed_in : List (ScanView × List Made) → List Made
listed_in [] = []
listed_in (step ∷ steps) = step.1 ++ listed_in steps

-- the calls, with attempts, that the value of a scan rests on
abbrev pub used_calls : Book → TableDecl → ScanRequest → Version → List Made
used_calls book table request (Is v) = used table request (answers_of book request.connection v)
used_calls book table request (Bad text) = []

-- those that a scan may reach
abbrev pub reach_calls : Book → TableDecl → ScanRequest → Version → List Made
reach_calls book table request (Is v) = reach table request (answers_of book request.connection v)
reach_calls book table request (Bad text) = []

-- Whatever a scan has listed since its beginning stands within what it may reach, each call counted with its repeats; and once the scan is decided, all calls that its value rests on are listed.
abbrev pub RunListsWhatIsUsed : Type 0
RunListsWhatIsUsed = (book : Book) (steps : List (ScanView × List Made)) (s t : ScanView) → is_lawful_scan s.table s.request ≡ true → scan_state s ≡ state_at s.table s.request s.version → IsRun book steps s t
    → IsWithin (listed_in steps) (reach_calls book s.table s.request s.version) × (IsSome t.stands.end → IsWithin (used_calls book s.table s.request s.version) (listed_in steps))
