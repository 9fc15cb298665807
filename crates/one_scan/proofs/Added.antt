-- The calls that a scan lists are lawful calls of it.
use Rattle.std.proofs.Common.{IsSome, ◌≡◌, ◌<◌, ◌^◌, ℕ, zero, suc, Bool, true, List, [], ◌∷◌, ◌++◌, Option, Some, None, refl, sym, ap, subst, ◌∙◌, append_assoc, inl, inr}
use Rattle.std.specs.Prelude.{slice_get}
use Rattle.sp_model.specs.Sayable.{IsSayableVersion}
use Rattle.sp_model.specs.declared.call.Call.{Call}
use Rattle.sp_model.specs.declared.call.Version.{Version}
use Rattle.sp_model.specs.declared.call.Version.TheVariants.{Is, Bad}
use Rattle.sp_model.specs.Book.{Book}
use Rattle.hydrate_graph.proofs.Hydrating.{and_left}
use Rattle.hydrate_graph.specs.Graphs.{is_ready}
use Rattle.row_flight.specs.Flying.{Seated, key_at}
use Rattle.row_flight.specs.Jobs.{IsJobOf}
use Rattle.row_flight.specs.Rows.{attempt_of, call_of}
use Rattle.row_flight.specs.declared.frame.Wanted.{Wanted}
use Rattle.scan_core.specs.Calls.{inner_of, inner_view, outer_of, outer_view}
use Rattle.scan_core.specs.Courses.{table_of, IsCourse, IsOpenCall}
use Rattle.scan_core.specs.Going.{IsIn}
use Rattle.scan_core.specs.Listing.{wanted_of, items_slot, items_function, CallLists, ListsNone, ListsItems, ListsParents, CourseLists}
use Rattle.scan_core.specs.declared.calls.ItemsCall.{ItemsCall}
use Rattle.scan_core.specs.declared.calls.ParentsCall.{ParentsCall}
use Rattle.scan_core.specs.declared.course.Course.{Course}
use Rattle.scan_core.specs.declared.scope.ScanScope.{ScanScope}
use Rattle.scan_core.specs.declared.course.CourseEnd.{CourseEnd}
use Rattle.one_scan.proofs.Goes.{listed_scan}
use Rattle.one_scan.proofs.Truth.{same_scan, same_open}
use Rattle.one_scan.specs.Views.{SameScan}
use Rattle.one_scan.proofs.Lawful.{IsLawfulCall, functions_apart, inner_lawful, outer_lawful, row_lawful}
use Rattle.one_scan.specs.Jobs.{IsScanJob, Adds}
use Rattle.one_scan.specs.Scans.{view_of, IsAt, IsScan}

get_in : {X : Type 0} (xs : List X) (place : ℕ) (x : X) → slice_get xs place ≡ Some x → IsIn x xs
get_in [] place x at = absurd (cc)
get_in (y ∷ ys) zero x at = let e : y ≡ x = cc in inl (sym e)
get_in (y ∷ ys) (suc place) x at = inr (get_in ys place x at)

-- an undecided scan is at the version that was told
told_at : {X : Type 0} (scope : ScanScope) (c : Course X) (version : Version) → IsAt version scope c → c.end ≡ None → version ≡ Is scope.version
told_at scope c (Is v) at open_end = ap Is (sym at)
told_at scope c (Bad text) at open_end = let bad : None ≡ Some _ = sym open_end ∙ at in absurd (cc)

below : (version : Version) (v : ℕ) → version ≡ Is v → IsSayableVersion version → v < 2 ^ 63
below version v e s = subst IsSayableVersion e s

module _ {X : Type 0} (tells : Bool) (book : Book) (scope : ScanScope) (scan : ℕ) (version : Version) (asked : ℕ) (wanting : Bool) (c d : Course X) (s : IsScan tells book scope c version asked) (t : IsScan tells book scope d version asked) (open_end : c.end ≡ None) where
  abbrev Job : Wanted → Type 0
  Job w = IsScanJob (view_of scope d version asked wanting) scan w

  at : version ≡ Is scope.version
  at = told_at scope c version s.at open_end

  -- a lawful call of the scan
  job_of : (w : Wanted) → w.call.connection ≡ scope.request.connection → w.call.version ≡ scope.version → w.seat.scan ≡ scan → IsLawfulCall (table_of scope) w.call.call w.call.attempt → Job w
  job_of w connection of seat l = record {
    lawful = l.lawful;
    connection = connection;
    table = l.named;
    version = at ∙ ap Is (sym of);
    form = (subst (λ (n : ℕ). n < 2 ^ 63) (sym of) (below version scope.version at s.sayable), l.form);
    seat = seat;
  }

  items_job : (i : ItemsCall X) (slot function : ℕ) → c.items ≡ Some i → Job (wanted_of i.call scan slot function)
  items_job i slot function is =
      let call : IsOpenCall scope i.call = (s.course.items i is).call in
      job_of (wanted_of i.call scan slot function) call.connection call.version refl
      (inner_lawful (table_of scope) scope.request s.lawful (inner_of scope.items c.walk i) (s.form.state.inner (inner_of scope.items c.walk i) (ap (inner_view scope.items c.walk) is)))

  parents_job : (o : ParentsCall X) → c.parents ≡ Some o → Job (wanted_of o.call scan 0 64)
  parents_job o is =
      let p = s.course.parents o is in
      job_of (wanted_of o.call scan 0 64) p.call.connection p.call.version refl
      (subst (λ (z : Call). IsLawfulCall (table_of scope) z o.call.stream.call.attempt) (sym p.asked)
      (outer_lawful (table_of scope) scope.request s.lawful (outer_of o) (s.form.state.outer (outer_of o) (ap outer_view is))))

  row_job : (w : Wanted) → IsJobOf scan d.flight w → Job w
  row_job w j =
      let seated : Seated = record { key = key_at w.seat; row = j.row } in
      let form = t.form.rows seated (get_in d.flight.rows j.sits.0 seated j.sits.1) in
      let ready : is_ready j.row.graph w.seat.function ≡ true = and_left (is_ready j.row.graph w.seat.function) (attempt_of j.row w.seat.function).listed j.job.listed in
      let named : call_of (table_of scope).name j.row w.seat.function ≡ Some w.call.call = ap (λ (n : List ℕ). call_of n j.row w.seat.function) (sym t.course.flight.name) ∙ j.job.call.asked in
      job_of w (j.job.call.connection ∙ t.form.connection) (j.job.call.version ∙ t.form.version) j.job.scan_is
      (subst (λ (n : ℕ). IsLawfulCall (table_of scope) w.call.call n) (sym j.job.call.attempt)
      (row_lawful (table_of scope) (functions_apart (table_of scope) scope.request s.lawful) d.flight.plan t.form.plan j.row form w.seat.function ready w.call.call named))

  put_more : (before jobs after more : List Wanted) (w : Wanted) → jobs ≡ before ++ w ∷ [] → after ≡ jobs ++ more → after ≡ before ++ w ∷ more
  put_more before jobs after more w put grows = grows ∙ ap (λ xs. xs ++ more) put ∙ append_assoc before (w ∷ []) more

  one_more : (w : Wanted) (more : List Wanted) → Job w → ((place : ℕ) (v : Wanted) → slice_get more place ≡ Some v → Job v) → (place : ℕ) (v : Wanted) → slice_get (w ∷ more) place ≡ Some v → Job v
  one_more w more here all zero v at_place = let e : w ≡ v = cc in subst Job e here
  one_more w more here all (suc place) v at_place = all place v at_place

  added_by : (before jobs after more : List Wanted) (m : Course X) → CallLists scope scan c m before jobs → after ≡ jobs ++ more → ((place : ℕ) (v : Wanted) → slice_get more place ≡ Some v → Job v) → Adds (view_of scope d version asked wanting) scan before after
  added_by before jobs after more m (ListsNone same e) grows all = record { more = more; grows = grows ∙ ap (λ xs. xs ++ more) e; jobs = all }
  added_by before jobs after more m (ListsItems i is off new put) grows all =
      let w : Wanted = wanted_of i.call scan (items_slot scope.request.access) (items_function scope.request.access) in
      record { more = w ∷ more; grows = put_more before jobs after more w put grows; jobs = one_more w more (items_job i (items_slot scope.request.access) (items_function scope.request.access) is) all }
  added_by before jobs after more m (ListsParents o closed is off new put) grows all =
      let w : Wanted = wanted_of o.call scan 0 64 in
      record { more = w ∷ more; grows = put_more before jobs after more w put grows; jobs = one_more w more (parents_job o is) all }

  pub added : (before after : List Wanted) → CourseLists scope scan c d before after → Adds (view_of scope d version asked wanting) scan before after
  added before after l = added_by before l.jobs after l.rows.more l.mid l.call l.rows.grows (λ place w at_place. row_job w (l.rows.jobs place w at_place))

-- nothing is added
pub none_added : {X : Type 0} (scope : ScanScope) (scan : ℕ) (version : Version) (asked : ℕ) (wanting : Bool) (d : Course X) (before after : List Wanted) → after ≡ before → Adds (view_of scope d version asked wanting) scan before after
none_added scope scan version asked wanting d before after e = record { more = []; grows = e ∙ sym (append_nil before); jobs = λ place w at. absurd (cc) }
  where
    append_nil : (xs : List Wanted) → xs ++ [] ≡ xs
    append_nil [] = refl
    append_nil (x ∷ xs) = ap (λ ys. x ∷ ys) (append_nil xs)

-- ---- whether the scan is decided or not

-- a scan that is decided stays as it is
pub listed_any : {X : Type 0} (tells : Bool) (book : Book) (scope : ScanScope) (scan : ℕ) (c d : Course X) (version : Version) (asked : ℕ) (before after : List Wanted) → IsScan tells book scope c version asked → IsCourse scope d
    → CourseLists scope scan c d before after → (o : Option CourseEnd) → c.end ≡ o → (IsSome o → (d ≡ c) × (after ≡ before)) → IsScan tells book scope d version asked
listed_any tells book scope scan c d version asked before after s course l None e still = listed_scan tells book scope scan c d version asked before after s course l e
listed_any {X} tells book scope scan c d version asked before after s course l (Some end) e still = subst (λ (z : Course X). IsScan tells book scope z version asked) (sym (still refl).0) s

pub added_any : {X : Type 0} (tells : Bool) (book : Book) (scope : ScanScope) (scan : ℕ) (c d : Course X) (version : Version) (asked : ℕ) (wanting : Bool) (before after : List Wanted) → IsScan tells book scope c version asked
    → IsScan tells book scope d version asked → CourseLists scope scan c d before after → (o : Option CourseEnd) → c.end ≡ o → (IsSome o → (d ≡ c) × (after ≡ before)) → Adds (view_of scope d version asked wanting) scan before after
added_any tells book scope scan c d version asked wanting before after s t l None e still = added tells book scope scan version asked wanting c d s t e before after l
added_any tells book scope scan c d version asked wanting before after s t l (Some end) e still = none_added scope scan version asked wanting d before after (still refl).1

pub same_any : {X : Type 0} (scope : ScanScope) (c d : Course X) (version : Version) (asked : ℕ) (a b : Bool) (E : Type 0) → (o : Option CourseEnd) → c.end ≡ o → (IsSome o → (d ≡ c) × E) → SameScan (view_of scope c version asked a) (view_of scope d version asked b)
same_any scope c d version asked a b E None e still = same_open scope c d version asked a b e
same_any {X} scope c d version asked a b E (Some end) e still =
    subst (λ (z : Course X). SameScan (view_of scope c version asked a) (view_of scope z version asked b)) (sym (still refl).0) (same_scan scope c c version asked a b (λ v is. is))
