-- For the model of a scan: what holds of its parts.
use Rattle.std.specs.Prelude.{◌≡◌, ◌≤◌, ◌^◌, ℕ, Bool, true, false, [], Option, Some, None, option_map, IsTrue}
use Rattle.sp_model.specs.Book.{Book}
use Rattle.sp_model.specs.Requests.{IsRequestOf}
use Rattle.sp_model.specs.Sayable.{IsSayableVersion}
use Rattle.sp_model.specs.Settling.{answers_of}
use Rattle.sp_model.specs.declared.call.Version.{Version}
use Rattle.sp_model.specs.declared.call.Version.TheVariants.{Is, Bad}
use Rattle.sp_model.specs.declared.scan.Cause.TheVariants.{BadVersion}
use Rattle.decl_words.specs.BookTables.{book_table}
use Rattle.model_laws.specs.LawfulScans.{is_lawful_scan}
use Rattle.row_flight.specs.Hearing.{AllHear}
use Rattle.scan_laws.specs.Scans.{Agrees, value_of}
use Rattle.scan_laws.specs.States.{Scan}
use Rattle.scan_laws.specs.Steps.{begin_of}
use Rattle.scan_core.specs.Laws.{IsOpen}
use Rattle.scan_core.specs.Courses.{end_view, state_of, table_of, IsScope, IsCourse}
use Rattle.scan_core.specs.declared.calls.OpenCall.{OpenCall}
use Rattle.scan_core.specs.declared.course.Course.{Course}
use Rattle.scan_core.specs.declared.course.CourseEnd.{CourseEnd}
use Rattle.scan_core.specs.declared.course.CourseEnd.TheVariants.{Complete, Limited, Failed as FailedAt}
use Rattle.scan_core.specs.declared.scope.ScanScope.{ScanScope}
use Rattle.one_scan.specs.Forms.{IsPlanForm, IsForm}
use Rattle.one_scan.specs.Views.{Present, Standing, ScanView}

-- all calls came to their ending
abbrev pub is_whole : Option CourseEnd → Bool
is_whole None = false
is_whole (Some Complete) = true
is_whole (Some Limited) = false
is_whole (Some (FailedAt row column cause)) = false

abbrev pub present_of : {X : Type 0} → OpenCall X → Present
present_of c = record { stream = c.stream; listed = c.listed; due = c.due; generation = c.generation }

abbrev pub standing_of : Scan → Standing
standing_of st = record { outer = st.outer; inner = st.inner; first = st.first; inside = st.inside; waiting = st.waiting; now = st.now; end = st.end }

abbrev pub view_of : {X : Type 0} → ScanScope → Course X → Version → ℕ → Bool → ScanView
view_of scope c version asked wanting = record {
  request = scope.request;
  table = table_of scope;
  version = version;
  asked = asked;
  window = scope.window;
  end = value_of (end_view c.walk c.end);
  steady = c.walk.steady;
  complete = is_whole c.end;
  wanting = wanting;
  stands = standing_of (state_of scope c);
  items = option_map (λ i. present_of i.call) c.items;
  parents = option_map (λ o. present_of o.call) c.parents;
  flight = c.flight;
}

-- the calls are of the version that was told; a bad one ends the scan before its first row
abbrev pub IsAt : {X : Type 0} → Version → ScanScope → Course X → Type 0
IsAt (Is v) scope c = scope.version ≡ v
IsAt (Bad text) scope c = c.end ≡ Some (FailedAt 0 None (BadVersion text))

-- the scan agrees with what the book answers at the version
abbrev pub AgreesWith : {X : Type 0} → Book → Version → ScanScope → Course X → Type 0
AgreesWith book (Is v) scope c =
    Agrees (table_of scope) scope.request (answers_of book scope.request.connection v) (state_of scope c) × AllHear (table_of scope) (answers_of book scope.request.connection v) c.flight.rows
AgreesWith book (Bad text) scope c = Unit {0}

pub record IsTold {X : Type 0} (book : Book) (scope : ScanScope) (c : Course X) (v : Version) (asked : ℕ) : Type 0 where
  pub of_book : book_table book scope.request.connection scope.request.table ≡ Some (table_of scope)
  pub version : v ≡ book.version scope.request.connection asked
  pub agrees : AgreesWith book v scope c

pub record IsScan {X : Type 0} (tells : Bool) (book : Book) (scope : ScanScope) (c : Course X) (version : Version) (asked : ℕ) : Type 0 where
  pub sources : IsScope scope
  pub course : IsCourse scope c
  pub form : IsForm scope c
  pub at : IsAt version scope c
  pub sayable : IsSayableVersion version
  pub made : IsRequestOf (table_of scope) scope.request
  pub lawful : is_lawful_scan (table_of scope) scope.request ≡ true
  pub tick : asked ≤ 2 ^ 62
  pub told : IsTrue tells → IsTold book scope c version asked

-- where memory isn't wanting the scan has gone on as far as what came leads, and waits for its first undecided place
pub record Waits {X : Type 0} (scope : ScanScope) (c : Course X) (wanting : Bool) : Type 0 where
  pub room : 1 ≤ scope.window
  pub place : wanting ≡ false → c.end ≡ None → IsOpen (table_of scope) scope.request (state_of scope c)

-- ---- the beginning

abbrev pub number_of : Version → ℕ
number_of (Is v) = v
number_of (Bad text) = 0

abbrev pub end_of : Version → Option CourseEnd
end_of (Is v) = None
end_of (Bad text) = Some (FailedAt 0 None (BadVersion text))

-- nothing is listed, and nothing came
pub record IsBegun {X : Type 0} (scope : ScanScope) (c : Course X) : Type 0 where
  pub state : state_of scope c ≡ begin_of (table_of scope) scope.request
  pub course : IsCourse scope c
  pub plan : IsPlanForm (table_of scope) c.flight.plan
  pub rows : c.flight.rows ≡ []
  pub connection : c.flight.frame.connection ≡ scope.request.connection
  pub version : c.flight.frame.version ≡ scope.version

-- at a bad version it is decided at once
abbrev pub BeginsAt : {X : Type 0} → ScanScope → Version → Course X → Type 0
BeginsAt {X} scope version c = (b : Course X) × IsBegun scope b × (c ≡ record b { end = end_of version })
