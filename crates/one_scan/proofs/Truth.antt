-- A scan that agrees with the book ends as the book's scan does.
use Rattle.std.proofs.Common.{◌≡◌, ℕ, zero, suc, Bool, true, List, [], ◌∷◌, length, Option, Some, None, IsTrue, refl, sym, ap, subst, ◌∙◌}
use Rattle.std.specs.Prelude.{slice_get}
use Rattle.sp_value.specs.declared.cell.Cell.{Cell}
use Rattle.sp_model.specs.Book.{Book}
use Rattle.sp_model.specs.Settling.{answers_of}
use Rattle.sp_model.specs.Walk.{walk_at, scan_value, is_complete, is_steady}
use Rattle.sp_model.specs.declared.call.Version.{Version}
use Rattle.sp_model.specs.declared.call.Version.TheVariants.{Is, Bad}
use Rattle.sp_model.specs.declared.outcome.ScanValue.{ScanValue}
use Rattle.sp_model.specs.declared.outcome.ScanValue.TheVariants as value
use Rattle.sp_model.specs.declared.outcome.Walk.TheVariants.{Going, Full}
use Rattle.sp_model.specs.declared.declaration.TableDecl.{TableDecl}
use Rattle.sp_model.specs.declared.scan.Mark.TheVariants.{Fresh}
use Rattle.sp_world.specs.Kept.{IsKeptForm, IsKeptWalk, IsKeptValue}
use Rattle.sp_world.specs.declared.kept_scan.KeptScan.{KeptScan}
use Rattle.scan_laws.proofs.Stepping.{result_is}
use Rattle.scan_laws.specs.Scans.{value_of}
use Rattle.scan_core.specs.Courses.{end_view, state_of, table_of}
use Rattle.scan_core.specs.declared.course.Course.{Course}
use Rattle.scan_core.specs.declared.course.CourseEnd.{CourseEnd}
use Rattle.scan_core.specs.declared.course.CourseEnd.TheVariants.{Complete, Limited, Failed as FailedAt}
use Rattle.scan_core.specs.declared.scope.ScanScope.{ScanScope}
use Rattle.one_scan.specs.Forms.{AreWide}
use Rattle.one_scan.specs.Scans.{is_whole, view_of, IsAt, AgreesWith, IsScan}
use Rattle.one_scan.specs.Views.{AreRows, IsOfScan, IsScanForm, SameScan}

module _ {X : Type 0} (book : Book) (scope : ScanScope) (c : Course X) where
  abbrev ended : Option CourseEnd → Option ScanValue
  ended o = value_of (end_view c.walk o)

  value_by : (v : Version) → IsAt v scope c → AgreesWith book v scope c → (x : ScanValue) → ended c.end ≡ Some x → scan_value book (table_of scope) scope.request v ≡ Some x
  unfolding scan_value walk_at
  value_by (Is v) at a x e = result_is (table_of scope) scope.request (answers_of book scope.request.connection v) (state_of scope c) x a.0 e
  value_by (Bad text) at a x e = ap ended (sym at) ∙ e

  steady_by : (v : Version) → IsAt v scope c → AgreesWith book v scope c → (o : Option CourseEnd) → c.end ≡ o → AreRows (ended o) → c.walk.steady ≡ is_steady (walk_at book (table_of scope) scope.request v)
  unfolding scan_value walk_at
  steady_by (Is v) at a None e are = absurd are
  steady_by (Is v) at a (Some Complete) e are = sym (ap is_steady (a.0.done (Going c.walk) (ap (end_view c.walk) e)))
  steady_by (Is v) at a (Some Limited) e are = sym (ap is_steady (a.0.done (Full c.walk) (ap (end_view c.walk) e)))
  steady_by (Is v) at a (Some (FailedAt row column cause)) e are = absurd are
  steady_by (Bad text) at a o e are = absurd (subst (λ (z : Option CourseEnd). AreRows (ended z)) (sym e ∙ at) are)

  complete_by : (v : Version) → IsAt v scope c → AgreesWith book v scope c → (o : Option CourseEnd) → c.end ≡ o → AreRows (ended o) → is_whole o ≡ is_complete (walk_at book (table_of scope) scope.request v)
  unfolding scan_value walk_at
  complete_by (Is v) at a None e are = absurd are
  complete_by (Is v) at a (Some Complete) e are = sym (ap is_complete (a.0.done (Going c.walk) (ap (end_view c.walk) e)))
  complete_by (Is v) at a (Some Limited) e are = sym (ap is_complete (a.0.done (Full c.walk) (ap (end_view c.walk) e)))
  complete_by (Is v) at a (Some (FailedAt row column cause)) e are = absurd are
  complete_by (Bad text) at a o e are = absurd (subst (λ (z : Option CourseEnd). AreRows (ended z)) (sym e ∙ at) are)

  pub is_true : (tells : Bool) (version : Version) (asked : ℕ) (wanting : Bool) → IsScan tells book scope c version asked → IsTrue tells → IsOfScan book (view_of scope c version asked wanting)
  is_true tells version asked wanting s t =
      let told = s.told t in
      record {
        of_book = told.of_book;
        version = told.version;
        value = value_by version s.at told.agrees;
        steady = steady_by version s.at told.agrees c.end refl;
        complete = complete_by version s.at told.agrees c.end refl;
      }

  -- ---- rows

  pub rows_are : (o : Option CourseEnd) → AreRows (ended o) → ended o ≡ Some (value.Rows c.walk.rows)
  rows_are None are = absurd are
  rows_are (Some Complete) are = refl
  rows_are (Some Limited) are = refl
  rows_are (Some (FailedAt row column cause)) are = absurd are

  its_rows : (o : Option CourseEnd) (rows : List (List Cell)) → ended o ≡ Some (value.Rows rows) → c.walk.rows ≡ rows
  its_rows None rows e = absurd (cc)
  its_rows (Some Complete) rows e = cc
  its_rows (Some Limited) rows e = cc
  its_rows (Some (FailedAt row column cause)) rows e = absurd (cc)

  wide_get : (n : ℕ) (rows : List (List Cell)) (k : ℕ) (row : List Cell) → AreWide n rows → slice_get rows k ≡ Some row → length row ≡ n
  wide_get n [] k row all at = absurd (cc)
  wide_get n (r ∷ rows) zero row all at = let s : r ≡ row = cc in subst (λ (z : List Cell). length z ≡ n) s all.0
  wide_get n (r ∷ rows) (suc k) row all at = wide_get n rows k row all.1 at

  pub is_formed : (tells : Bool) (version : Version) (asked : ℕ) (wanting : Bool) → IsScan tells book scope c version asked → IsScanForm (view_of scope c version asked wanting)
  is_formed tells version asked wanting s = record {
    made = s.made;
    tick = s.tick;
    end = refl;
    cells = λ rows k row e at. wide_get (length scope.request.columns) rows k row (subst (AreWide (length scope.request.columns)) (its_rows c.end rows e) s.form.state.rows) at;
  }

  -- ---- kept

  abbrev kept_of : Version → ℕ → KeptScan
  kept_of version asked = record { note = record { request = scope.request; asked = asked; at = asked; version = version; mark = Fresh }; rows = c.walk.rows; complete = is_whole c.end }

  pub kept_form : (tells : Bool) (version : Version) (asked : ℕ) → IsScan tells book scope c version asked → IsKeptForm (kept_of version asked)
  kept_form tells version asked s = (λ k row at. wide_get (length scope.request.columns) c.walk.rows k row s.form.state.rows at, s.tick, s.tick)

  pub kept_told : (tells : Bool) (version : Version) (asked : ℕ) → IsScan tells book scope c version asked → AreRows (ended c.end) → c.walk.steady ≡ true → IsTrue tells → IsKeptValue book (kept_of version asked)
  kept_told tells version asked s are steady t =
      let told = s.told t in
      record {
        version = told.version;
        walk = λ table e.
            let one : Some (table_of scope) ≡ Some table = sym told.of_book ∙ e in
            let same : table_of scope ≡ table = cc in
            subst (λ (z : TableDecl). IsKeptWalk book z (kept_of version asked)) same (record {
              made_of = s.made;
              value = value_by version s.at told.agrees (value.Rows c.walk.rows) (rows_are c.end are);
              steady = sym (steady_by version s.at told.agrees c.end refl are) ∙ steady;
              complete = complete_by version s.at told.agrees c.end refl are;
            });
      }

-- ---- the same scan

pub same_scan : {X : Type 0} (scope : ScanScope) (c d : Course X) (version : Version) (asked : ℕ) (a b : Bool)
    → ((v : ScanValue) → value_of (end_view c.walk c.end) ≡ Some v → value_of (end_view d.walk d.end) ≡ Some v) → SameScan (view_of scope c version asked a) (view_of scope d version asked b)
same_scan scope c d version asked a b end = record { request = refl; table = refl; version = refl; asked = refl; window = refl; end = end }

-- a scan that wasn't decided
pub same_open : {X : Type 0} (scope : ScanScope) (c d : Course X) (version : Version) (asked : ℕ) (a b : Bool) → c.end ≡ None → SameScan (view_of scope c version asked a) (view_of scope d version asked b)
same_open scope c d version asked a b none =
    same_scan scope c d version asked a b (λ v e. let bad : None ≡ Some v = sym (ap (λ o. value_of (end_view c.walk o)) none) ∙ e in absurd (cc))

pub same_still : {X : Type 0} (scope : ScanScope) (c d : Course X) (version : Version) (asked : ℕ) (a b : Bool) → state_of scope d ≡ state_of scope c → SameScan (view_of scope c version asked a) (view_of scope d version asked b)
same_still scope c d version asked a b e = same_scan scope c d version asked a b (λ v is. ap (λ st. value_of st.end) e ∙ is)
