-- Steps of the loops.
use Rattle.std.proofs.Common.{◌≡◌, ℕ, zero, suc, ◌+◌, ◌<◌, ◌≤◌, List, [], ◌∷◌, ◌++◌, Option, Some, None, Bool, true, false, ◌&&◌, ◌||◌, get_or, drop, length, map, refl, sym, ap, subst, ◌∙◌, arith, add-one}
use Rattle.std.specs.Prelude.{All, IsTrue, bytes_eq}
use Rattle.std.specs.Arc.{arc_value}
use Rattle.std.specs.List.{list_all}
use Rattle.std.proofs.lemmas.Slice.Eq.{bytes_eq-Decides}
use Rattle.sp_value.specs.declared.cell.Cell.{Cell}
use Rattle.sp_model.specs.Book.{Book}
use Rattle.sp_model.specs.Names.{has_name}
use Rattle.sp_model.specs.Requests.{IsRequestOf, is_positive, keys_for, are_sent, subset_for}
use Rattle.sp_model.specs.declared.call.Version.{Version}
use Rattle.sp_model.specs.declared.declaration.KeyDecl.{KeyDecl}
use Rattle.sp_model.specs.declared.declaration.TableDecl.{TableDecl}
use Rattle.sp_model.specs.declared.scan.ScanNote.{ScanNote}
use Rattle.sp_model.specs.declared.scan.ScanRequest.{ScanRequest}
use Rattle.sp_model.specs.declared.settings.Connection.{Connection}
use Rattle.decl_words.specs.BookTables.{book_table}
use Rattle.source_run.specs.Ready.{IsReady}
use Rattle.source_run.specs.Sources.{source_of}
use Rattle.scan_run.specs.Asked.{AllOnlyFilter, IsScanOf}
use Rattle.source_scans.specs.Planned.{IsMadeBy, unlimited}
use Rattle.source_scans.specs.declared.source.PlanSource.{PlanSource}
use Rattle.statement_words.specs.Answered.{IsAt}
use Rattle.statement_words.specs.Course.{Course, StatementPlan, lowered, less, scan_next, scan_all, from_source, from_sources}
use Rattle.statement_words.specs.Runs.{plain_names}
use Rattle.statement_words.proofs.Courses.{next_left_out, all_next, all_done, sources_next}

-- ---- lists

pub element_is : {X : Type 0} (P : X → Type 0) (xs : List X) (i : ℕ) (x : X) → i < length xs → x ≡ get_or xs i x → All P xs → P x
element_is {X} P xs i x lt e all = subst (λ (y : X). P y) (sym e) (all i x lt)

drop_suc : {X : Type 0} (xs : List X) (i : ℕ) (x : X) → i < length xs → x ≡ get_or xs i x → drop i xs ≡ x ∷ drop (suc i) xs
drop_suc [] i x lt e = absurd (omega arith)
drop_suc {X} (y ∷ ys) zero x lt e = ap (λ (z : X). z ∷ ys) (sym e)
drop_suc (y ∷ ys) (suc i) x lt e = drop_suc ys i x (omega arith) e

drop_at : {X : Type 0} (xs : List X) (i : ℕ) (x : X) → i < length xs → x ≡ get_or xs i x → drop i xs ≡ x ∷ drop (i + 1) xs
drop_at {X} xs i x lt e = rw add-one (drop_suc xs i x lt e)

drop_none : {X : Type 0} (xs : List X) (i : ℕ) → length xs ≤ i → drop i xs ≡ []
drop_none [] zero le = refl
drop_none [] (suc i) le = refl
drop_none (x ∷ xs) zero le = absurd (omega arith)
drop_none (x ∷ xs) (suc i) le = drop_none xs i (omega arith)

-- ---- requests

sent_lowered : (keys : Option (List KeyDecl)) (r : ScanRequest) (missing : Option ℕ) → are_sent keys (unlimited r) ≡ true → are_sent keys (lowered missing r) ≡ true
unfolding are_sent
sent_lowered None r missing h = h
sent_lowered (Some keys) r missing h = h

lowered_made : (table : TableDecl) (r : ScanRequest) (missing : Option ℕ) → is_positive missing ≡ true → IsRequestOf table (unlimited r) → IsRequestOf table (lowered missing r)
lowered_made table r missing positive made = record {
  name = made.name;
  columns = made.columns;
  sent = sent_lowered (keys_for table r.access) r missing made.sent;
  subset = made.subset;
  limit = positive;
}

-- a request for what is missing may be scanned
pub scan_lowered : (tells : Bool) (book : Book) (connections : List Connection) (s : PlanSource) (r : ScanRequest) (missing : Option ℕ) → IsReady tells book connections s → IsMadeBy s r → is_positive missing ≡ true
    → IsScanOf (arc_value s.table) (lowered missing r)
scan_lowered tells book connections s r missing ready made positive =
    let same : s.subset ≡ r.subset = ready.planned.subset ∙ ap (subset_for (arc_value s.table)) (sym made.access) ∙ sym made.request.subset in
    record {
      sound = ready.sound;
      made = lowered_made (arc_value s.table) r missing positive made.request;
      lawful = ready.lawful r made;
      subset = subst (λ (names : List (List ℕ)). AllOnlyFilter (arc_value s.table) names (arc_value s.table).list) same ready.subset;
    }

pub made_lowered : (tells : Bool) (book : Book) (connections : List Connection) (s : PlanSource) (r q : ScanRequest) (missing : Option ℕ) → q ≡ lowered missing r → is_positive missing ≡ true → IsReady tells book connections s
    → IsMadeBy s r → IsScanOf (arc_value s.table) q
made_lowered tells book connections s r q missing same positive ready made =
    subst (λ (x : ScanRequest). IsScanOf (arc_value s.table) x) (sym same) (scan_lowered tells book connections s r missing ready made positive)

pub book_lowered : (tells : Bool) (book : Book) (connections : List Connection) (s : PlanSource) (r q : ScanRequest) (missing : Option ℕ) → q ≡ lowered missing r → IsReady tells book connections s → IsMadeBy s r → IsTrue tells
    → book_table book q.connection q.table ≡ Some (arc_value s.table)
book_lowered tells book connections s r q missing same ready made told =
    subst (λ (x : ScanRequest). book_table book x.connection x.table ≡ Some (arc_value s.table)) (sym same)
    (ap (λ (name : List ℕ). book_table book r.connection name) made.request.name ∙ ready.of_book told r.connection made.connection)

right_of : (a b : Bool) → (a && b) ≡ true → b ≡ true
right_of true b h = h
right_of false b h = absurd (cc)

left_of : (a b : Bool) → (a && b) ≡ true → a ≡ true
left_of true b h = refl
left_of false b h = absurd (cc)

-- what is true of each of these names is true of one that is among them
among : (p : List ℕ → Bool) (n : List ℕ) (names : List (List ℕ)) (name : List ℕ) → (list_all p names ≡ true → has_name names name ≡ true → p name ≡ true) → (here : Bool) → bytes_eq name n ≡ here → (p n && list_all p names) ≡ true
    → (here || has_name names name) ≡ true → p name ≡ true
among p n names name later true e all h = ap p ((bytes_eq-Decides name n).0 e) ∙ left_of (p n) (list_all p names) all
among p n names name later false e all h = later (right_of (p n) (list_all p names) all) h

name_among : (p : List ℕ → Bool) (names : List (List ℕ)) (name : List ℕ) → list_all p names ≡ true → has_name names name ≡ true → p name ≡ true
name_among p [] name all h = absurd (cc)
name_among p (n ∷ names) name all h = among p n names name (λ a k. name_among p names name a k) (bytes_eq name n) refl all h

pub plain_lowered : (tells : Bool) (book : Book) (connections : List Connection) (s : PlanSource) (r q : ScanRequest) (missing : Option ℕ) → q ≡ lowered missing r → IsReady tells book connections s → IsMadeBy s r
    → has_name (plain_names connections) q.connection ≡ true
plain_lowered tells book connections s r q missing same ready made =
    subst (λ (x : ScanRequest). has_name (plain_names connections) x.connection ≡ true) (sym same)
    (name_among (has_name (plain_names connections)) s.connections r.connection ready.plain made.connection)

pub not_zero : (missing : Option ℕ) → is_positive missing ≡ true → missing ≡ Some 0 → ⊥
not_zero None positive e = (cc)
not_zero (Some zero) positive e = (cc)
not_zero (Some (suc n)) positive e = (cc)

pub none_missing : (book : Book) (table : TableDecl) (missing : Option ℕ) (r : ScanRequest) (rows : List (List Cell)) (whole : List Version → Course) (notes : List ScanNote) (more : List (List Cell) → List Version → Course)
    → missing ≡ Some 0 → rows ≡ [] → IsAt whole notes (λ vs. scan_next book table missing r vs more) → IsAt whole notes (more rows)
none_missing book table missing r rows whole notes more zero_missing none at =
    subst (λ (xs : List (List Cell)). IsAt whole notes (more xs)) (sym none)
    (next_left_out book table r whole notes more (subst (λ (m : Option ℕ). IsAt whole notes (λ vs. scan_next book table m r vs more)) zero_missing at))

-- ---- loops

pub scan_step : (book : Book) (table : TableDecl) (missing : Option ℕ) (lists : List (List (List Cell))) (requests : List ScanRequest) (i : ℕ) (r : ScanRequest) (whole : List Version → Course) (notes : List ScanNote)
    (more : List (List (List Cell)) → List Version → Course) → i < length requests → r ≡ get_or requests i r
    → IsAt whole notes (λ vs. scan_all book table missing lists (drop i requests) vs more)
    → IsAt whole notes (λ vs. scan_next book table missing r vs (λ rows ws. scan_all book table (less missing rows) (lists ++ rows ∷ []) (drop (i + 1) requests) ws more))
scan_step book table missing lists requests i r whole notes more lt e at =
    all_next book table missing lists r (drop (i + 1) requests) whole notes more
    (subst (λ (rs : List ScanRequest). IsAt whole notes (λ vs. scan_all book table missing lists rs vs more)) (drop_at requests i r lt e) at)

pub scan_done : (book : Book) (table : TableDecl) (missing : Option ℕ) (lists : List (List (List Cell))) (requests : List ScanRequest) (i : ℕ) (whole : List Version → Course) (notes : List ScanNote)
    (more : List (List (List Cell)) → List Version → Course) → length requests ≤ i
    → IsAt whole notes (λ vs. scan_all book table missing lists (drop i requests) vs more) → IsAt whole notes (more lists)
scan_done book table missing lists requests i whole notes more le at =
    all_done book table missing lists whole notes more
    (subst (λ (rs : List ScanRequest). IsAt whole notes (λ vs. scan_all book table missing lists rs vs more)) (drop_none requests i le) at)

-- one list of rows more
pub scan_pushed : (book : Book) (table : TableDecl) (missing less_missing : Option ℕ) (lists all : List (List (List Cell))) (rows : List (List Cell)) (requests : List ScanRequest) (whole : List Version → Course) (notes : List ScanNote)
    (more : List (List (List Cell)) → List Version → Course) → less_missing ≡ less missing rows → all ≡ lists ++ rows ∷ []
    → IsAt whole notes (λ ws. scan_all book table (less missing rows) (lists ++ rows ∷ []) requests ws more) → IsAt whole notes (λ ws. scan_all book table less_missing all requests ws more)
scan_pushed book table missing less_missing lists all rows requests whole notes more e f at =
    subst (λ (m : Option ℕ). IsAt whole notes (λ ws. scan_all book table m all requests ws more)) (sym e)
    (subst (λ (xs : List (List (List Cell))). IsAt whole notes (λ ws. scan_all book table (less missing rows) xs requests ws more)) (sym f) at)

pub source_step : (book : Book) (plan : StatementPlan) (sources : List PlanSource) (i : ℕ) (s : PlanSource) (left : List (List Cell)) (whole : List Version → Course) (notes : List ScanNote)
    → i < length sources → s ≡ get_or sources i s
    → IsAt whole notes (λ vs. from_sources book plan (map source_of (drop i sources)) left vs)
    → IsAt whole notes (λ vs. from_source book (source_of s) left vs (λ rows ws. from_sources book plan (map source_of (drop (i + 1) sources)) rows ws))
source_step book plan sources i s left whole notes lt e at =
    sources_next book plan (source_of s) (map source_of (drop (i + 1) sources)) left whole notes
    (subst (λ (ss : List PlanSource). IsAt whole notes (λ vs. from_sources book plan (map source_of ss) left vs)) (drop_at sources i s lt e) at)

pub source_done : (book : Book) (plan : StatementPlan) (sources : List PlanSource) (i : ℕ) (left : List (List Cell)) (whole : List Version → Course) (notes : List ScanNote)
    → length sources ≤ i → IsAt whole notes (λ vs. from_sources book plan (map source_of (drop i sources)) left vs) → IsAt whole notes (λ vs. from_sources book plan [] left vs)
source_done book plan sources i left whole notes le at =
    subst (λ (ss : List PlanSource). IsAt whole notes (λ vs. from_sources book plan (map source_of ss) left vs)) (drop_none sources i le) at
