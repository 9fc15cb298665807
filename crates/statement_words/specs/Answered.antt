-- Answers with notes, against a statement's course.
use Rattle.std.specs.Prelude.{◌≡◌, ◌⊎◌, ℕ, List, [], ◌∷◌, ◌++◌, map, length, Some, Result, Ok, Err}
use mathlib.Core.List.{IsPrefix}
use Rattle.sp_value.specs.declared.cell.Cell.{Cell}
use Rattle.sp_model.specs.Book.{Book}
use Rattle.sp_model.specs.Walk.{scan_value}
use Rattle.sp_model.specs.declared.call.Version.{Version}
use Rattle.sp_model.specs.declared.declaration.TableDecl.{TableDecl}
use Rattle.sp_model.specs.declared.outcome.ScanValue.{ScanValue}
use Rattle.sp_model.specs.declared.outcome.ScanValue.TheVariants.{Rows, Failed}
use Rattle.sp_model.specs.declared.scan.ScanNote.{ScanNote}
use Rattle.sp_model.specs.declared.scan.ScanRequest.{ScanRequest}
use Rattle.statement_words.specs.Course.{Course, CourseEnd, Gives, FailsAt, Needs, prefixed}
use Rattle.statement_words.specs.declared.stop.Stop.{Stop}
use Rattle.statement_words.specs.declared.stop.Stop.TheVariants as stop

abbrev pub versions_of : List ScanNote → List Version
versions_of notes = map (λ n. n.version) notes

abbrev pub requests_of_notes : List ScanNote → List ScanRequest
requests_of_notes notes = map (λ n. n.request) notes

-- by the versions of these notes a course has made their scans, and rests so, whatever versions come
pub record IsAt (whole : List Version → Course) (notes : List ScanNote) (rest : List Version → Course) : Type 0 where
  pub same : (later : List Version) → whole (versions_of notes ++ later) ≡ prefixed (requests_of_notes notes) (rest later)

-- the course ends so, after the scans of these notes
abbrev pub EndsAt : (List Version → Course) → List ScanNote → CourseEnd → Type 0
EndsAt whole notes e = whole (versions_of notes) ≡ record { scans = requests_of_notes notes; end = e }

-- no note is added, or one of which this holds
abbrev pub Adds : (ScanNote → Type 0) → List ScanNote → List ScanNote → Type 0
Adds P before after = (after ≡ before) ⊎ ((note : ScanNote) × (after ≡ before ++ note ∷ []) × P note)

abbrev pub IsNoted : ScanRequest → List ScanNote → List ScanNote → Type 0
IsNoted r before after = Adds (λ n. n.request ≡ r) before after

-- by these notes, the last of which may be of the scan itself, the course needs a scan of the connection
pub record IsNeeding (whole : List Version → Course) (notes : List ScanNote) (connection : List ℕ) : Type 0 where
  pub done : List ScanNote
  pub request : ScanRequest
  pub needs : EndsAt whole done (Needs request)
  pub of_connection : request.connection ≡ connection
  pub notes_are : IsNoted request done notes

-- the course's end is the stop: its first failing scan, which is the last noted one; a spent budget of the connection of the scan
-- that is needed next; or want of memory, where the notes are of its first scans
abbrev pub IsStop : (List Version → Course) → List ScanNote → Stop → Type 0
IsStop whole notes (stop.ScanFailed scan row column cause) = (scan ≡ length notes) × EndsAt whole notes (FailsAt row column cause)
IsStop whole notes (stop.RestartsSpent connection losses) = IsNeeding whole notes connection
IsStop whole notes stop.Memory = IsPrefix (requests_of_notes notes) (whole (versions_of notes)).scans

-- ---- one scan

-- one note is added, of this request, at whose version the scan has this value
pub record IsValued (book : Book) (table : TableDecl) (r : ScanRequest) (before after : List ScanNote) (value : ScanValue) : Type 0 where
  pub note : ScanNote
  pub added : after ≡ before ++ note ∷ []
  pub of_request : note.request ≡ r
  pub is : scan_value book table r note.version ≡ Some value

-- what a scan comes to
abbrev pub IsScanned : Book → TableDecl → ScanRequest → List ScanNote → List ScanNote → Result (List (List Cell)) Stop → Type 0
IsScanned book table r before after (Ok rows) = IsValued book table r before after (Rows rows)
IsScanned book table r before after (Err (stop.ScanFailed scan row column cause)) = (scan ≡ length after) × IsValued book table r before after (Failed row column cause)
IsScanned book table r before after (Err (stop.RestartsSpent connection losses)) = (connection ≡ r.connection) × IsNoted r before after
IsScanned book table r before after (Err stop.Memory) = IsNoted r before after

-- ---- what is made of it

-- where the course stands before a part of it, it stands after it as the rows say, or stops
abbrev pub GoesOn : {X : Type 0} → (List Version → Course) → List ScanNote → (X → List Version → Course) → Result X Stop → Type 0
GoesOn whole notes more (Ok x) = IsAt whole notes (more x)
GoesOn whole notes more (Err e) = IsStop whole notes e

-- a statement's rows, or its stop, against its course
abbrev pub IsAnswer : (List Version → Course) → List ScanNote → Result (List (List Cell)) Stop → Type 0
IsAnswer whole notes (Ok rows) = EndsAt whole notes (Gives rows)
IsAnswer whole notes (Err e) = IsStop whole notes e

-- it has rows, or the failure of a scan
abbrev pub IsDecided : Result (List (List Cell)) Stop → Type 0
IsDecided (Ok rows) = Unit {0}
IsDecided (Err (stop.ScanFailed scan row column cause)) = Unit {0}
IsDecided (Err e) = ⊥
