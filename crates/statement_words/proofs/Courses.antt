-- How a course goes on by one more scan.
use Rattle.std.proofs.Common.{◌≡◌, ℕ, zero, suc, List, [], ◌∷◌, ◌++◌, Option, Some, None, Result, Ok, Err, refl, sym, ap, inl, inr, ◌∙◌, subst, append-nil, append_assoc}
use mathlib.Core.List.{IsPrefix}
use Rattle.sp_value.specs.declared.cell.Cell.{Cell}
use Rattle.sp_model.specs.Book.{Book}
use Rattle.sp_model.specs.declared.call.Version.{Version}
use Rattle.sp_model.specs.declared.declaration.TableDecl.{TableDecl}
use Rattle.sp_model.specs.declared.outcome.ScanValue.{ScanValue}
use Rattle.sp_model.specs.declared.outcome.ScanValue.TheVariants.{Rows, Failed}
use Rattle.sp_model.specs.declared.scan.ScanNote.{ScanNote}
use Rattle.sp_model.specs.declared.scan.ScanRequest.{ScanRequest}
use Rattle.sp_model.specs.Walk.{scan_value}
use Rattle.statement_words.specs.Answered.{versions_of, requests_of_notes, IsAt, EndsAt, IsNoted, IsValued, IsScanned, GoesOn}
use Rattle.statement_words.specs.Course.{Course, CourseEnd, Gives, FailsAt, Needs, ends, prefixed, StatementSource, StatementPlan, with_value, scan_one, lowered, scan_next, less, scan_all, from_source, from_sources, course}
use Rattle.statement_words.specs.declared.stop.Stop.{Stop}
use Rattle.statement_words.specs.declared.stop.Stop.TheVariants as stop

prefixed_twice : (xs ys : List ScanRequest) (c : Course) → prefixed xs (prefixed ys c) ≡ prefixed (xs ++ ys) c
prefixed_twice xs ys c = ap (λ (s : List ScanRequest). record { scans = s; end = c.end }) (sym (append_assoc xs ys c.scans))

prefixed_end : (xs : List ScanRequest) (e : CourseEnd) → prefixed xs (ends e) ≡ record { scans = xs; end = e }
prefixed_end xs e = ap (λ (s : List ScanRequest). record { scans = s; end = e }) (append-nil xs)

-- the versions of one note more, and later ones
versions_more : (notes : List ScanNote) (n : ScanNote) (later : List Version) → versions_of (notes ++ n ∷ []) ++ later ≡ versions_of notes ++ (n.version ∷ later)
versions_more [] n later = refl
versions_more (m ∷ notes) n later = ap (λ (vs : List Version). m.version ∷ vs) (versions_more notes n later)

requests_more : (notes : List ScanNote) (n : ScanNote) → requests_of_notes (notes ++ n ∷ []) ≡ requests_of_notes notes ++ (n.request ∷ [])
requests_more [] n = refl
requests_more (m ∷ notes) n = ap (λ (rs : List ScanRequest). m.request ∷ rs) (requests_more notes n)

-- a scan at the version of its note
pub at_note : (book : Book) (table : TableDecl) (r : ScanRequest) (whole : List Version → Course) (before : List ScanNote) (n : ScanNote) (more : List (List Cell) → List Version → Course)
    → IsAt whole before (λ vs. scan_one book table r vs more) → n.request ≡ r
    → (later : List Version) → whole (versions_of (before ++ n ∷ []) ++ later) ≡ prefixed (requests_of_notes (before ++ n ∷ [])) (with_value (scan_value book table r n.version) (λ rows. more rows later))
unfolding scan_one
at_note book table r whole before n more at same later =
    ap whole (versions_more before n later)
    ∙ at.same (n.version ∷ later)
    ∙ prefixed_twice (requests_of_notes before) (r ∷ []) (with_value (scan_value book table r n.version) (λ rows. more rows later))
    ∙ ap (λ (rs : List ScanRequest). prefixed rs (with_value (scan_value book table r n.version) (λ rows. more rows later)))
    (ap (λ (x : ScanRequest). requests_of_notes before ++ (x ∷ [])) (sym same) ∙ sym (requests_more before n))

-- ---- a scan that is done

scanned_rows : (book : Book) (table : TableDecl) (r : ScanRequest) (whole : List Version → Course) (before after : List ScanNote) (more : List (List Cell) → List Version → Course) (rows : List (List Cell))
    → IsAt whole before (λ vs. scan_one book table r vs more) → IsValued book table r before after (Rows rows) → IsAt whole after (more rows)
scanned_rows book table r whole before after more rows at h = record {
  same = λ later.
      ap (λ (ns : List ScanNote). whole (versions_of ns ++ later)) h.added
      ∙ at_note book table r whole before h.note more at h.of_request later
      ∙ ap (λ (v : Option ScanValue). prefixed (requests_of_notes (before ++ h.note ∷ [])) (with_value v (λ xs. more xs later))) h.is
      ∙ ap (λ (ns : List ScanNote). prefixed (requests_of_notes ns) (more rows later)) (sym h.added);
}

scanned_failed : (book : Book) (table : TableDecl) (r : ScanRequest) (whole : List Version → Course) (before after : List ScanNote) (more : List (List Cell) → List Version → Course)
    (row : ℕ) (column : Option (List ℕ)) (cause : _)
    → IsAt whole before (λ vs. scan_one book table r vs more) → IsValued book table r before after (Failed row column cause) → EndsAt whole after (FailsAt row column cause)
scanned_failed book table r whole before after more row column cause at h =
    ap whole (sym (append-nil (versions_of after)))
    ∙ ap (λ (ns : List ScanNote). whole (versions_of ns ++ [])) h.added
    ∙ at_note book table r whole before h.note more at h.of_request []
    ∙ ap (λ (v : Option ScanValue). prefixed (requests_of_notes (before ++ h.note ∷ [])) (with_value v (λ xs. more xs []))) h.is
    ∙ prefixed_end (requests_of_notes (before ++ h.note ∷ [])) (FailsAt row column cause)
    ∙ ap (λ (ns : List ScanNote). record { scans = requests_of_notes ns; end = FailsAt row column cause }) (sym h.added)

-- before a scan that has no version
needs_scan : (book : Book) (table : TableDecl) (r : ScanRequest) (whole : List Version → Course) (before : List ScanNote) (more : List (List Cell) → List Version → Course)
    → IsAt whole before (λ vs. scan_one book table r vs more) → EndsAt whole before (Needs r)
unfolding scan_one
needs_scan book table r whole before more at =
    ap whole (sym (append-nil (versions_of before))) ∙ at.same [] ∙ prefixed_end (requests_of_notes before) (Needs r)

-- wherever the course stands, the notes are of its first scans
pub at_prefix : (whole : List Version → Course) (notes : List ScanNote) (rest : List Version → Course) → IsAt whole notes rest → IsPrefix (requests_of_notes notes) (whole (versions_of notes)).scans
at_prefix whole notes rest at = ((rest []).scans, ap (λ (c : Course). c.scans) (sym (ap whole (sym (append-nil (versions_of notes))) ∙ at.same [])))

noted_prefix : (book : Book) (table : TableDecl) (r : ScanRequest) (whole : List Version → Course) (before after : List ScanNote) (more : List (List Cell) → List Version → Course)
    → IsAt whole before (λ vs. scan_one book table r vs more) → IsNoted r before after → IsPrefix (requests_of_notes after) (whole (versions_of after)).scans
noted_prefix book table r whole before after more at (inl same) =
    subst (λ (ns : List ScanNote). IsPrefix (requests_of_notes ns) (whole (versions_of ns)).scans) (sym same) (at_prefix whole before (λ vs. scan_one book table r vs more) at)
noted_prefix book table r whole before after more at (inr h) =
    subst (λ (ns : List ScanNote). IsPrefix (requests_of_notes ns) (whole (versions_of ns)).scans) (sym h.1)
    (at_prefix whole (before ++ h.0 ∷ []) (λ vs. with_value (scan_value book table r h.0.version) (λ rows. more rows vs)) (record { same = at_note book table r whole before h.0 more at h.2 }))

-- what a scan comes to takes the course on
pub scanned_goes : (book : Book) (table : TableDecl) (r : ScanRequest) (whole : List Version → Course) (before after : List ScanNote) (more : List (List Cell) → List Version → Course) (result : Result (List (List Cell)) Stop)
    → IsScanned book table r before after result → IsAt whole before (λ vs. scan_one book table r vs more) → GoesOn whole after more result
scanned_goes book table r whole before after more (Ok rows) h at = scanned_rows book table r whole before after more rows at h
scanned_goes book table r whole before after more (Err (stop.ScanFailed scan row column cause)) h at =
    (h.0, scanned_failed book table r whole before after more row column cause at h.1)
scanned_goes book table r whole before after more (Err (stop.RestartsSpent connection losses)) h at =
    record { done = before; request = r; needs = needs_scan book table r whole before more at; of_connection = sym h.0; notes_are = h.1 }
scanned_goes book table r whole before after more (Err stop.Memory) h at = noted_prefix book table r whole before after more at h

-- ---- a source's scans

-- the same rest in other words
pub at_same : (whole : List Version → Course) (notes : List ScanNote) (rest other : List Version → Course) → ((vs : List Version) → rest vs ≡ other vs) → IsAt whole notes rest → IsAt whole notes other
at_same whole notes rest other e at = record { same = λ later. at.same later ∙ ap (prefixed (requests_of_notes notes)) (e later) }

-- nothing is missing: no scan
pub next_left_out : (book : Book) (table : TableDecl) (r : ScanRequest) (whole : List Version → Course) (notes : List ScanNote) (more : List (List Cell) → List Version → Course)
    → IsAt whole notes (λ vs. scan_next book table (Some 0) r vs more) → IsAt whole notes (more [])
unfolding scan_next
next_left_out book table r whole notes more at = at

-- a scan of what is missing
pub next_scanned : (book : Book) (table : TableDecl) (missing : Option ℕ) (r : ScanRequest) (whole : List Version → Course) (notes : List ScanNote) (more : List (List Cell) → List Version → Course)
    → (missing ≡ Some 0 → ⊥) → IsAt whole notes (λ vs. scan_next book table missing r vs more) → IsAt whole notes (λ vs. scan_one book table (lowered missing r) vs more)
unfolding scan_next
next_scanned book table None r whole notes more n at = at
next_scanned book table (Some zero) r whole notes more n at = absurd (n refl)
next_scanned book table (Some (suc k)) r whole notes more n at = at

-- one scan more of a source
pub all_next : (book : Book) (table : TableDecl) (missing : Option ℕ) (lists : List (List (List Cell))) (r : ScanRequest) (rs : List ScanRequest) (whole : List Version → Course) (notes : List ScanNote)
    (more : List (List (List Cell)) → List Version → Course)
    → IsAt whole notes (λ vs. scan_all book table missing lists (r ∷ rs) vs more)
    → IsAt whole notes (λ vs. scan_next book table missing r vs (λ rows ws. scan_all book table (less missing rows) (lists ++ rows ∷ []) rs ws more))
unfolding scan_all
all_next book table missing lists r rs whole notes more at = at

pub all_done : (book : Book) (table : TableDecl) (missing : Option ℕ) (lists : List (List (List Cell))) (whole : List Version → Course) (notes : List ScanNote)
    (more : List (List (List Cell)) → List Version → Course)
    → IsAt whole notes (λ vs. scan_all book table missing lists [] vs more) → IsAt whole notes (more lists)
unfolding scan_all
all_done book table missing lists whole notes more at = at

-- ---- sources

pub source_scans : (book : Book) (s : StatementSource) (left : List (List Cell)) (whole : List Version → Course) (notes : List ScanNote) (more : List (List Cell) → List Version → Course)
    → IsAt whole notes (λ vs. from_source book s left vs more)
    → IsAt whole notes (λ vs. scan_all book s.table s.limit [] (s.requests left) vs (λ lists ws. more (s.joined left lists) ws))
unfolding from_source
source_scans book s left whole notes more at = at

pub sources_next : (book : Book) (plan : StatementPlan) (s : StatementSource) (ss : List StatementSource) (left : List (List Cell)) (whole : List Version → Course) (notes : List ScanNote)
    → IsAt whole notes (λ vs. from_sources book plan (s ∷ ss) left vs) → IsAt whole notes (λ vs. from_source book s left vs (λ rows ws. from_sources book plan ss rows ws))
unfolding from_sources
sources_next book plan s ss left whole notes at = at

pub sources_done : (book : Book) (plan : StatementPlan) (left rows : List (List Cell)) (whole : List Version → Course) (notes : List ScanNote)
    → rows ≡ plan.shown left → IsAt whole notes (λ vs. from_sources book plan [] left vs) → EndsAt whole notes (Gives rows)
unfolding from_sources
sources_done book plan left rows whole notes same at =
    ap whole (sym (append-nil (versions_of notes))) ∙ at.same [] ∙ prefixed_end (requests_of_notes notes) (Gives (plan.shown left))
    ∙ ap (λ (xs : List (List Cell)). record { scans = requests_of_notes notes; end = Gives xs }) (sym same)

pub course_begins : (book : Book) (plan : StatementPlan) → IsAt (course book plan) [] (λ vs. from_sources book plan plan.sources ([] ∷ []) vs)
unfolding course
course_begins book plan = record { same = λ later. refl }
