-- A scan waits as its view says.
use Rattle.std.proofs.Common.{◌≡◌, ℕ, Bool, Option, Some, None, refl, sym, ap, subst}
use Rattle.std.specs.Prelude.{option_map}
use Rattle.sp_model.specs.declared.call.Asked.{Asked}
use Rattle.sp_model.specs.declared.call.Piece.{Piece}
use Rattle.sp_model.specs.declared.call.Version.{Version}
use Rattle.sp_model.specs.declared.outcome.WalkState.{WalkState}
use Rattle.sp_model.specs.declared.scan.Seat.{Seat}
use Rattle.row_flight.specs.Dues.{sooner, due_of}
use Rattle.scan_laws.specs.Scans.{value_of}
use Rattle.scan_core.specs.Courses.{end_view, state_of, table_of}
use Rattle.scan_core.specs.Dues as dues
use Rattle.scan_core.specs.Hearing.{seat_of, CallAwaits, ItemsAwait, ParentsAwait, AwaitsBy, Awaits, SameParents, IsUnchanged, StandsStill}
use Rattle.scan_core.specs.Listing.{items_slot}
use Rattle.scan_core.specs.declared.calls.ItemsCall.{ItemsCall}
use Rattle.scan_core.specs.declared.calls.OpenCall.{OpenCall}
use Rattle.scan_core.specs.declared.calls.ParentsCall.{ParentsCall}
use Rattle.scan_core.specs.declared.course.Course.{Course}
use Rattle.scan_core.specs.declared.course.CourseEnd.{CourseEnd}
use Rattle.scan_core.specs.declared.course.CourseEnd.TheVariants.{Complete, Limited, Failed as FailedAt}
use Rattle.scan_core.specs.declared.scope.ScanScope.{ScanScope}
use Rattle.scan_core.specs.declared.seat.SeatOf.{SeatOf}
use Rattle.scan_core.specs.declared.seat.SeatOf.TheVariants.{Items, Parents, Row}
use Rattle.one_scan.specs.Scans.{is_whole, present_of, standing_of, view_of}
use Rattle.one_scan.specs.Views.{Present}
use Rattle.one_scan.specs.Waiting.{IsNextOf, IsNextAt, WaitsBy, WaitsFor, call_due, asked_due, due_by, scan_due}

-- a scan has no value until it is decided
pub none_ended : (now : WalkState) (o : Option CourseEnd) → value_of (end_view now o) ≡ None → o ≡ None
none_ended now None e = refl
none_ended now (Some Complete) e = absurd (cc)
none_ended now (Some Limited) e = absurd (cc)
none_ended now (Some (FailedAt row column cause)) e = absurd (cc)

-- ---- pieces

next_of : {X : Type 0} (c : OpenCall X) (slot : ℕ) (seat : Seat) (asked : Asked) (p : Piece) → CallAwaits c slot seat asked p → IsNextOf (present_of c) slot seat asked p
next_of c slot seat asked p a = record { slot_is = a.at.slot_is; generation = a.at.generation; call = a.at.call; listed = a.listed; next = a.next }

of_next : {X : Type 0} (c : OpenCall X) (slot : ℕ) (seat : Seat) (asked : Asked) (p : Piece) → IsNextOf (present_of c) slot seat asked p → CallAwaits c slot seat asked p
of_next c slot seat asked p n = record { at = record { slot_is = n.slot_is; generation = n.generation; call = n.call }; listed = n.listed; next = n.next }

module _ {X : Type 0} (scope : ScanScope) (version : Version) (at : ℕ) (wanting : Bool) where
  shown_by : (kind : SeatOf) (c : Course X) (seat : Seat) (asked : Asked) (p : Piece) → AwaitsBy kind scope c seat asked p → WaitsBy kind (view_of scope c version at wanting) seat asked p
  shown_by Items c seat asked p w =
      subst (λ (o : Option (ItemsCall X)). IsNextAt (option_map (λ (i : ItemsCall X). present_of i.call) o) (items_slot scope.request.access) seat asked p) (sym w.1) (next_of w.0.call (items_slot scope.request.access) seat asked p w.2)
  shown_by Parents c seat asked p w = subst (λ (o : Option (ParentsCall X)). IsNextAt (option_map (λ (z : ParentsCall X). present_of z.call) o) 0 seat asked p) (sym w.1) (next_of w.0.call 0 seat asked p w.2)
  shown_by Row c seat asked p w = w

  items_await : (c : Course X) (seat : Seat) (asked : Asked) (p : Piece) (o : Option (ItemsCall X)) → c.items ≡ o → IsNextAt (option_map (λ (i : ItemsCall X). present_of i.call) o) (items_slot scope.request.access) seat asked p
      → ItemsAwait scope c seat asked p
  items_await c seat asked p None e n = absurd n
  items_await c seat asked p (Some i) e n = (i, e, of_next i.call (items_slot scope.request.access) seat asked p n)

  parents_await : (c : Course X) (seat : Seat) (asked : Asked) (p : Piece) (o : Option (ParentsCall X)) → c.parents ≡ o → IsNextAt (option_map (λ (z : ParentsCall X). present_of z.call) o) 0 seat asked p → ParentsAwait c seat asked p
  parents_await c seat asked p None e n = absurd n
  parents_await c seat asked p (Some o) e n = (o, e, of_next o.call 0 seat asked p n)

  awaited_by : (kind : SeatOf) (c : Course X) (seat : Seat) (asked : Asked) (p : Piece) → WaitsBy kind (view_of scope c version at wanting) seat asked p → AwaitsBy kind scope c seat asked p
  awaited_by Items c seat asked p w = items_await c seat asked p c.items refl w
  awaited_by Parents c seat asked p w = parents_await c seat asked p c.parents refl w
  awaited_by Row c seat asked p w = w

  pub waits : (c : Course X) (seat : Seat) (asked : Asked) (p : Piece) → c.end ≡ None → AwaitsBy (seat_of scope.request.access seat.function) scope c seat asked p → WaitsFor (view_of scope c version at wanting) seat asked p
  waits c seat asked p on w = (ap (λ (o : Option CourseEnd). value_of (end_view c.walk o)) on, shown_by (seat_of scope.request.access seat.function) c seat asked p w)

  pub awaited : (c : Course X) (seat : Seat) (asked : Asked) (p : Piece) → WaitsFor (view_of scope c version at wanting) seat asked p → Awaits scope c seat asked p
  awaited c seat asked p w = (none_ended c.walk c.end w.0, awaited_by (seat_of scope.request.access seat.function) c seat asked p w.1)

  -- ---- a scan that stands as it did

  same_parents : (a b : Option (ParentsCall X)) → SameParents a b → option_map (λ (o : ParentsCall X). present_of o.call) b ≡ option_map (λ (o : ParentsCall X). present_of o.call) a
  same_parents None None s = refl
  same_parents (Some a) (Some b) s = ap (λ (c : OpenCall X). Some (present_of c)) s.0
  same_parents None (Some b) s = absurd s
  same_parents (Some a) None s = absurd s

  pub unchanged_view : (c d : Course X) → StandsStill scope c d → IsUnchanged c d → view_of scope d version at wanting ≡ view_of scope c version at wanting
  unchanged_view c d still same = λ i. record {
    request = scope.request;
    table = table_of scope;
    version = version;
    asked = at;
    window = scope.window;
    end = value_of (still.state i).end;
    steady = (still.state i).now.steady;
    complete = is_whole (still.end i);
    wanting = wanting;
    stands = standing_of (still.state i);
    items = option_map (λ (z : ItemsCall X). present_of z.call) (same.items i);
    parents = same_parents c.parents d.parents same.parents i;
    flight = still.flight i;
  }

  -- ---- ticks

  due_asked : (items : Option (ItemsCall X)) (parents : Option (ParentsCall X)) → asked_due (option_map (λ (z : ItemsCall X). present_of z.call) items) (option_map (λ (z : ParentsCall X). present_of z.call) parents) ≡ dues.asked_due items parents
  due_asked (Some i) parents = refl
  due_asked None (Some o) = refl
  due_asked None None = refl

  due_ended : (c : Course X) (o : Option CourseEnd) → due_by (value_of (end_view c.walk o)) (view_of scope c version at wanting) ≡ dues.due_by o c
  due_ended c None = ap (λ (tick : Option ℕ). sooner tick (due_of c.flight)) (due_asked c.items c.parents)
  due_ended c (Some Complete) = refl
  due_ended c (Some Limited) = refl
  due_ended c (Some (FailedAt row column cause)) = refl

  pub due_shown : (c : Course X) → dues.course_due c ≡ scan_due (view_of scope c version at wanting)
  due_shown c = sym (due_ended c c.end)
