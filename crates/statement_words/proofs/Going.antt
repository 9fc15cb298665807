-- The laws of a statement's course.
use Rattle.std.proofs.Common.{◌≡◌, ℕ, zero, suc, List, length, Option, Some, None, Result, Ok, Err, sym, ap, ◌∙◌}
use Rattle.std.proofs.lemmas.List.{length-map}
use Rattle.sp_value.specs.declared.cell.Cell.{Cell}
use Rattle.sp_model.specs.declared.call.Version.{Version}
use Rattle.sp_model.specs.declared.scan.Cause.{Cause}
use Rattle.sp_model.specs.declared.scan.ScanNote.{ScanNote}
use Rattle.statement_words.specs.Answered.{versions_of, requests_of_notes, EndsAt}
use Rattle.statement_words.specs.Course.{Course, CourseEnd, Gives, FailsAt}
use Rattle.statement_words.specs.Laws.{SourceBegins, ScanGoesOn, SourceGoesOn, AnswersAgree, CourseBegins}
use Rattle.statement_words.specs.declared.stop.Stop.{Stop}
use Rattle.statement_words.specs.declared.stop.Stop.TheVariants as stop
use Rattle.statement_words.proofs.Courses.{scanned_goes, next_scanned, next_left_out, all_next, source_scans, sources_next, course_begins}

pub begins : CourseBegins
begins book plan = course_begins book plan

pub source_starts : SourceBegins
source_starts book plan s ss left whole notes at = source_scans book s left whole notes _ (sources_next book plan s ss left whole notes at)

pub goes_on : ScanGoesOn
goes_on book table r whole before after more result scanned at = scanned_goes book table r whole before after more result scanned at

pub source_on : SourceGoesOn
source_on book table (Some zero) lists r rs whole notes more at = next_left_out book table r whole notes _ (all_next book table (Some zero) lists r rs whole notes more at)
source_on book table (Some (suc n)) lists r rs whole notes more at = next_scanned book table (Some (suc n)) r whole notes _ (λ e. absurd (cc)) (all_next book table (Some (suc n)) lists r rs whole notes more at)
source_on book table None lists r rs whole notes more at = next_scanned book table None r whole notes _ (λ e. absurd (cc)) (all_next book table None lists r rs whole notes more at)

-- ---- two answers

same_course : (whole : List Version → Course) (notes others : List ScanNote) (d e : CourseEnd) → EndsAt whole notes d → EndsAt whole others e → versions_of notes ≡ versions_of others
    → (d ≡ e) × (requests_of_notes notes ≡ requests_of_notes others)
same_course whole notes others d e h k same =
    let is = sym h ∙ ap whole same ∙ k in
    (ap (λ (c : Course). c.end) is, ap (λ (c : Course). c.scans) is)

same_number : (notes others : List ScanNote) → versions_of notes ≡ versions_of others → length notes ≡ length others
same_number notes others same = sym (length-map notes (λ n. n.version)) ∙ ap length same ∙ length-map others (λ n. n.version)

abbrev Failure : ℕ → ℕ → Option (List ℕ) → Cause → Result (List (List Cell)) Stop
Failure scan row column cause = Err (stop.ScanFailed scan row column cause)

same_failure : (n m : ℕ) (r q : ℕ) (c d : Option (List ℕ)) (x y : Cause) → n ≡ m → FailsAt r c x ≡ FailsAt q d y → Failure n r c x ≡ Failure m q d y
same_failure n m r q c d x y e h = cc

pub agree : AnswersAgree
agree whole notes others (Ok rows) (Ok more) h k same da db =
    let s = same_course whole notes others (Gives rows) (Gives more) h k same in (cc, s.1)
agree whole notes others (Ok rows) (Err (stop.ScanFailed scan row column cause)) h k same da db =
    let s = same_course whole notes others (Gives rows) (FailsAt row column cause) h k.1 same in absurd (cc)
agree whole notes others (Ok rows) (Err stop.Memory) h k same da db = absurd db
agree whole notes others (Ok rows) (Err (stop.RestartsSpent c l)) h k same da db = absurd db
agree whole notes others (Err (stop.ScanFailed scan row column cause)) (Ok rows) h k same da db =
    let s = same_course whole notes others (FailsAt row column cause) (Gives rows) h.1 k same in absurd (cc)
agree whole notes others (Err (stop.ScanFailed scan row column cause)) (Err (stop.ScanFailed other place name why)) h k same da db =
    let s = same_course whole notes others (FailsAt row column cause) (FailsAt place name why) h.1 k.1 same in
    (same_failure scan other row place column name cause why (h.0 ∙ same_number notes others same ∙ sym k.0) s.0, s.1)
agree whole notes others (Err (stop.ScanFailed scan row column cause)) (Err stop.Memory) h k same da db = absurd db
agree whole notes others (Err (stop.ScanFailed scan row column cause)) (Err (stop.RestartsSpent c l)) h k same da db = absurd db
agree whole notes others (Err stop.Memory) b h k same da db = absurd da
agree whole notes others (Err (stop.RestartsSpent c l)) b h k same da db = absurd da
