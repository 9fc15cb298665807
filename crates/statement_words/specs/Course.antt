-- What a statement answers: its sources are scanned one after another.
use Rattle.std.specs.Prelude.{ℕ, zero, suc, ◌-◌, List, [], ◌∷◌, ◌++◌, length, Option, Some, None, option_map}
use Rattle.sp_value.specs.declared.cell.Cell.{Cell}
use Rattle.sp_model.specs.Book.{Book}
use Rattle.sp_model.specs.Walk.{scan_value}
use Rattle.sp_model.specs.declared.call.Version.{Version}
use Rattle.sp_model.specs.declared.declaration.TableDecl.{TableDecl}
use Rattle.sp_model.specs.declared.outcome.ScanValue.{ScanValue}
use Rattle.sp_model.specs.declared.outcome.ScanValue.TheVariants.{Rows, Failed}
use Rattle.sp_model.specs.declared.scan.Cause.{Cause}
use Rattle.sp_model.specs.declared.scan.ScanRequest.{ScanRequest}

-- ---- a statement

-- a source of a statement: its table, how many of its rows are enough, the scans that the rows of the sources before it ask for, and what
-- is made of those rows with the rows of these scans
pub record StatementSource : Type 0 where
  pub table : TableDecl
  pub limit : Option ℕ
  pub requests : List (List Cell) → List ScanRequest
  pub joined : List (List Cell) → List (List (List Cell)) → List (List Cell)

-- a statement: its sources, and what it shows of the last one's rows
pub record StatementPlan : Type 0 where
  pub sources : List StatementSource
  pub shown : List (List Cell) → List (List Cell)

-- ---- how it goes

-- how a statement ends: with rows, at its first failing scan, or at a scan for which no version is given; a whole book leaves none open
pub data CourseEnd : Type 0 where
  Gives : (rows : List (List Cell)) → CourseEnd
  FailsAt : (row : ℕ) (column : Option (List ℕ)) (cause : Cause) → CourseEnd
  Needs : (request : ScanRequest) → CourseEnd
  Open : CourseEnd

-- the scans that are made, in their order, and the end
pub record Course : Type 0 where
  pub scans : List ScanRequest
  pub end : CourseEnd

abbrev pub ends : CourseEnd → Course
ends e = record { scans = []; end = e }

-- these scans are made before
abbrev pub prefixed : List ScanRequest → Course → Course
prefixed made c = record { scans = made ++ c.scans; end = c.end }

-- ---- one scan

abbrev pub with_value : Option ScanValue → (List (List Cell) → Course) → Course
with_value (Some (Rows rows)) more = more rows
with_value (Some (Failed row column cause)) more = ends (FailsAt row column cause)
with_value None more = ends Open

-- a scan takes the next of the versions
unfoldable pub scan_one : Book → TableDecl → ScanRequest → List Version → (List (List Cell) → List Version → Course) → Course
scan_one book table r [] more = ends (Needs r)
scan_one book table r (v ∷ vs) more = prefixed (r ∷ []) (with_value (scan_value book table r v) (λ rows. more rows vs))

-- ---- the scans of a source

abbrev pub lowered : Option ℕ → ScanRequest → ScanRequest
lowered missing r = record r { limit = missing }

-- a scan of what is still missing of a limit; none is made where nothing is
unfoldable pub scan_next : Book → TableDecl → Option ℕ → ScanRequest → List Version → (List (List Cell) → List Version → Course) → Course
scan_next book table (Some zero) r vs more = more [] vs
scan_next book table (Some (suc n)) r vs more = scan_one book table (lowered (Some (suc n)) r) vs more
scan_next book table None r vs more = scan_one book table (lowered None r) vs more

abbrev pub less : Option ℕ → List (List Cell) → Option ℕ
less missing rows = option_map (λ n. n - length rows) missing

-- one scan after another; `lists` has the rows of those before
unfoldable pub scan_all : Book → TableDecl → Option ℕ → List (List (List Cell)) → List ScanRequest → List Version → (List (List (List Cell)) → List Version → Course) → Course
scan_all book table missing lists [] vs more = more lists vs
scan_all book table missing lists (r ∷ rs) vs more =
    scan_next book table missing r vs (λ rows ws. scan_all book table (less missing rows) (lists ++ rows ∷ []) rs ws more)

-- left rows and the scans that they ask for
unfoldable pub from_source : Book → StatementSource → List (List Cell) → List Version → (List (List Cell) → List Version → Course) → Course
from_source book s left vs more = scan_all book s.table s.limit [] (s.requests left) vs (λ lists ws. more (s.joined left lists) ws)

-- the sources one after another, from left rows on
unfoldable pub from_sources : Book → StatementPlan → List StatementSource → List (List Cell) → List Version → Course
from_sources book plan [] left vs = ends (Gives (plan.shown left))
from_sources book plan (s ∷ ss) left vs = from_source book s left vs (λ rows ws. from_sources book plan ss rows ws)

-- a statement by a book, at these versions of its scans: it begins with one empty row
unfoldable pub course : Book → StatementPlan → List Version → Course
course book plan vs = from_sources book plan plan.sources ([] ∷ []) vs
