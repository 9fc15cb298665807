-- Laws of a statement's course.
use Rattle.std.specs.Prelude.{◌≡◌, ℕ, zero, suc, List, [], ◌∷◌, ◌++◌, Option, Some, None, Result}
use Rattle.sp_value.specs.declared.cell.Cell.{Cell}
use Rattle.sp_model.specs.Book.{Book}
use Rattle.sp_model.specs.declared.call.Version.{Version}
use Rattle.sp_model.specs.declared.declaration.TableDecl.{TableDecl}
use Rattle.sp_model.specs.declared.scan.ScanNote.{ScanNote}
use Rattle.sp_model.specs.declared.scan.ScanRequest.{ScanRequest}
use Rattle.statement_words.specs.Answered.{versions_of, requests_of_notes, IsAt, IsScanned, GoesOn, IsAnswer, IsDecided}
use Rattle.statement_words.specs.Course.{Course, StatementPlan, StatementSource, course, from_sources, scan_all, scan_one, lowered, less}
use Rattle.statement_words.specs.declared.stop.Stop.{Stop}

abbrev pub CourseBegins : Type 0
CourseBegins = (book : Book) (plan : StatementPlan) → IsAt (course book plan) [] (λ vs. from_sources book plan plan.sources ([] ∷ []) vs)

abbrev pub SourceBegins : Type 0
SourceBegins = (book : Book) (plan : StatementPlan) (s : StatementSource) (ss : List StatementSource) (left : List (List Cell)) (whole : List Version → Course) (notes : List ScanNote)
    → IsAt whole notes (λ vs. from_sources book plan (s ∷ ss) left vs)
    → IsAt whole notes (λ vs. scan_all book s.table s.limit [] (s.requests left) vs (λ lists ws. from_sources book plan ss (s.joined left lists) ws))

abbrev pub ScanGoesOn : Type 0
ScanGoesOn = (book : Book) (table : TableDecl) (r : ScanRequest) (whole : List Version → Course) (before after : List ScanNote) (more : List (List Cell) → List Version → Course) (result : Result (List (List Cell)) Stop)
    → IsScanned book table r before after result → IsAt whole before (λ vs. scan_one book table r vs more) → GoesOn whole after more result

-- what a source's next request takes the course to, by what is still missing
abbrev pub NextScan : Book → TableDecl → List (List (List Cell)) → ScanRequest → List ScanRequest → (List (List (List Cell)) → List Version → Course) → Option ℕ → List Version → Course
NextScan book table lists r rs more (Some zero) vs = scan_all book table (Some zero) (lists ++ [] ∷ []) rs vs more
NextScan book table lists r rs more (Some (suc n)) vs =
    scan_one book table (lowered (Some (suc n)) r) vs (λ rows ws. scan_all book table (less (Some (suc n)) rows) (lists ++ rows ∷ []) rs ws more)
NextScan book table lists r rs more None vs = scan_one book table (lowered None r) vs (λ rows ws. scan_all book table None (lists ++ rows ∷ []) rs ws more)

abbrev pub SourceGoesOn : Type 0
SourceGoesOn = (book : Book) (table : TableDecl) (missing : Option ℕ) (lists : List (List (List Cell))) (r : ScanRequest) (rs : List ScanRequest) (whole : List Version → Course) (notes : List ScanNote)
    (more : List (List (List Cell)) → List Version → Course)
    → IsAt whole notes (λ vs. scan_all book table missing lists (r ∷ rs) vs more) → IsAt whole notes (λ vs. NextScan book table lists r rs more missing vs)

abbrev pub AnswersAgree : Type 0
AnswersAgree = (whole : List Version → Course) (notes others : List ScanNote) (a b : Result (List (List Cell)) Stop)
    → IsAnswer whole notes a → IsAnswer whole others b → versions_of notes ≡ versions_of others → IsDecided a → IsDecided b → (a ≡ b) × (requests_of_notes notes ≡ requests_of_notes others)
