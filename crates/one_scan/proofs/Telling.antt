-- How a scan goes on where the world tells, and for what it waits then.
use Rattle.std.proofs.Common.{◌≡◌, ◌≤◌, ◌⊎◌, inl, inr, ℕ, Bool, true, false, List, [], ◌++◌, take, drop, Option, Some, None, IsSome, IsTrue, refl, sym, ap, subst, ◌∙◌}
use Rattle.std.proofs.lemmas.List.{append-nil, append_cancel_left, take-append-drop}
use Rattle.sp_model.specs.Book.{Book}
use Rattle.sp_model.specs.Settling.{answers_of}
use Rattle.sp_model.specs.declared.call.Asked.{Asked}
use Rattle.sp_model.specs.declared.call.Piece.{Piece}
use Rattle.sp_model.specs.declared.call.Version.{Version}
use Rattle.sp_model.specs.declared.call.Version.TheVariants.{Is, Bad}
use Rattle.sp_model.specs.declared.scan.Seat.{Seat}
use Rattle.sp_world.specs.Pieces.{IsToldPiece}
use Rattle.row_flight.specs.Jobs.{IsAllListed, made_of}
use Rattle.row_flight.specs.declared.frame.Wanted.{Wanted}
use Rattle.scan_laws.specs.Scans.{Keeps, value_of}
use Rattle.scan_laws.specs.States.{Scan}
use Rattle.scan_core.proofs.Keeping.{keeps_none}
use Rattle.scan_core.proofs.Waits.{still_open}
use Rattle.scan_core.specs.Courses.{end_view, undecided, state_of, table_of, IsCourse}
use Rattle.scan_core.specs.Hearing.{TakesIn, StandsStill}
use Rattle.scan_core.specs.Laws.{IsOpen}
use Rattle.scan_core.specs.Listing as core
use Rattle.scan_core.specs.Listing.{CourseLists}
use Rattle.scan_core.specs.Next.{IsStill}
use Rattle.scan_core.specs.declared.calls.ItemsCall.{ItemsCall}
use Rattle.scan_core.specs.declared.calls.ParentsCall.{ParentsCall}
use Rattle.scan_core.specs.declared.course.Course.{Course}
use Rattle.scan_core.specs.declared.course.CourseEnd.{CourseEnd}
use Rattle.scan_core.specs.declared.scope.ScanScope.{ScanScope}
use Rattle.one_scan.proofs.Goes.{more_of, more_grows, listed_keeps, listed_waits, listed_end, takes_went}
use Rattle.one_scan.proofs.Lawful.{functions_apart}
use Rattle.one_scan.proofs.Waiting.{none_ended}
use Rattle.one_scan.specs.Runs.{CallIsListed, IsListed, IsWaiting, GoesAt, Goes}
use Rattle.one_scan.specs.Scans.{present_of, view_of, IsAt, AgreesWith, IsScan, Waits}
use Rattle.std.specs.Prelude.{option_map}

module _ {X : Type 0} (book : Book) (scope : ScanScope) (asked : ℕ) (a b : Bool) where
  -- from one view of a scan to the next
  abbrev Went : Course X → Course X → Version → List Wanted → Type 0
  Went c d version more = GoesAt book version (view_of scope c version asked a) (view_of scope d version asked b) (made_of more)

  -- ---- nothing is listed

  none_by : (c d : Course X) (version : Version) → AgreesWith book version scope c → state_of scope d ≡ state_of scope c → Went c d version []
  none_by c d (Is v) agrees same = keeps_none (table_of scope) scope.request (answers_of book scope.request.connection v) (state_of scope c) (state_of scope d) same agrees.0
  none_by c d (Bad text) agrees same = (same, refl)

  pub none_goes : (tells : Bool) (c d : Course X) (version : Version) → IsScan tells book scope c version asked → IsTrue tells → state_of scope d ≡ state_of scope c → Went c d version []
  none_goes tells c d version s t same = none_by c d version (s.told t).agrees same

  -- the list is as it was
  pub same_list_goes : (tells : Bool) (c d : Course X) (version : Version) (before after more : List Wanted) → IsScan tells book scope c version asked → IsTrue tells → state_of scope d ≡ state_of scope c → after ≡ before → after ≡ before ++ more
      → Went c d version more
  same_list_goes tells c d version before after more s t same kept grows =
      subst (Went c d version) (append_cancel_left before [] more (append-nil before ∙ sym kept ∙ grows)) (none_goes tells c d version s t same)

  -- ---- calls are listed

  listed_by : (c d : Course X) (version : Version) (scan : ℕ) (before after more : List Wanted) (tells : Bool) → IsScan tells book scope c version asked → CourseLists scope scan c d before after → c.end ≡ None → IsAt version scope c → AgreesWith book version scope c
      → after ≡ before ++ more → Went c d version more
  listed_by c d (Is v) scan before after more tells s l on at agrees grows =
      let keeps = listed_keeps scope scan c d before after (answers_of book scope.request.connection v) s.course l (functions_apart (table_of scope) scope.request s.lawful) (ap (end_view c.walk) on) agrees.0 agrees.1 in
      let same : more_of scope scan c d before after s.course l ≡ more = append_cancel_left before (more_of scope scan c d before after s.course l) more (sym (more_grows scope scan c d before after s.course l) ∙ grows) in
      subst (Went c d (Is v)) same keeps.0
  listed_by c d (Bad text) scan before after more tells s l on at agrees grows = let bad : None ≡ Some _ = sym on ∙ at in absurd (cc)

  goes_by : (tells : Bool) (c d : Course X) (version : Version) (scan : ℕ) (before after more : List Wanted) → IsScan tells book scope c version asked → CourseLists scope scan c d before after → IsTrue tells → (o : Option CourseEnd) → c.end ≡ o
      → (IsSome o → (d ≡ c) × (after ≡ before)) → after ≡ before ++ more → Went c d version more
  goes_by tells c d version scan before after more s l t None e still grows = listed_by c d version scan before after more tells s l e s.at (s.told t).agrees grows
  goes_by tells c d version scan before after more s l t (Some end) e still grows = same_list_goes tells c d version before after more s t (ap (state_of scope) (still refl).0) (still refl).1 grows

  pub wanted_goes : (tells : Bool) (c d : Course X) (version : Version) (scan : ℕ) (before after more : List Wanted) → IsScan tells book scope c version asked → CourseLists scope scan c d before after → (IsSome c.end → (d ≡ c) × (after ≡ before))
      → IsTrue tells → after ≡ before ++ more → Went c d version more
  wanted_goes tells c d version scan before after more s l still t grows = goes_by tells c d version scan before after more s l t c.end refl still grows

  -- ---- a piece comes

  taken_by : (tells : Bool) (c d : Course X) (version : Version) (seat : Seat) (of : Asked) (p : Piece) (tick : ℕ) → IsScan tells book scope c version asked → TakesIn scope c seat of p tick d → IsToldPiece book of p → IsAt version scope c
      → AgreesWith book version scope c → Went c d version []
  taken_by tells c d (Is v) seat of p tick s takes told at agrees =
      (takes_went scope book v (functions_apart (table_of scope) scope.request s.lawful) at c d seat of p tick s.course s.form.connection s.form.version takes told agrees).0
  taken_by tells c d (Bad text) seat of p tick s takes told at agrees = let bad : None ≡ Some _ = sym takes.going ∙ at in absurd (cc)

  pub taken_goes : (tells : Bool) (c d : Course X) (version : Version) (seat : Seat) (of : Asked) (p : Piece) (tick : ℕ) → IsScan tells book scope c version asked → TakesIn scope c seat of p tick d → (IsTrue tells → IsToldPiece book of p) → IsTrue tells
      → Went c d version []
  taken_goes tells c d version seat of p tick s takes told t = taken_by tells c d version seat of p tick s takes (told t) s.at (s.told t).agrees

  pub memory_goes : (tells : Bool) (c d : Course X) (version : Version) (seat : Seat) (of : Asked) (p : Piece) (tick : ℕ) → IsScan tells book scope c version asked → StandsStill scope c d ⊎ TakesIn scope c seat of p tick d → (IsTrue tells → IsToldPiece book of p)
      → IsTrue tells → Went c d version []
  memory_goes tells c d version seat of p tick s (inl still) told t = none_goes tells c d version s t still.state
  memory_goes tells c d version seat of p tick s (inr takes) told t = taken_goes tells c d version seat of p tick s takes told t

-- ---- for what it waits

module _ {X : Type 0} (scope : ScanScope) where
  pub waits_kept : (c d : Course X) (wanting : Bool) → state_of scope d ≡ state_of scope c → d.end ≡ c.end → Waits scope c wanting → Waits scope d wanting
  waits_kept c d wanting state end w = record { room = w.room; place = λ off on. subst (IsOpen (table_of scope) scope.request) (sym state) (w.place off (sym end ∙ on)) }

  pub waits_wanting : (c d : Course X) (wanting : Bool) → Waits scope c wanting → Waits scope d true
  waits_wanting c d wanting w = record { room = w.room; place = λ off on. absurd (cc) }

  pub waits_taken : (c d : Course X) (wanting : Bool) → Waits scope c wanting → (d.end ≡ None → IsStill (table_of scope) scope.request scope.window (state_of scope d)) → Waits scope d wanting
  waits_taken c d wanting w still = record {
    room = w.room;
    place = λ off on. still_open (table_of scope) scope.request scope.window (state_of scope d) w.room (take-append-drop d.before (undecided d)) (still on);
  }

  waits_by : (scan : ℕ) (c d : Course X) (wanting : Bool) (before after : List Wanted) → IsCourse scope c → CourseLists scope scan c d before after → (o : Option CourseEnd) → c.end ≡ o → (IsSome o → (d ≡ c) × (after ≡ before)) → Waits scope c wanting
      → Waits scope d wanting
  waits_by scan c d wanting before after course l None e still w = record {
    room = w.room;
    place = λ off on. listed_waits scope scan c d before after course l (w.place off e);
  }
  waits_by scan c d wanting before after course l (Some end) e still w = subst (λ (z : Course X). Waits scope z wanting) (sym (still refl).0) w

  pub waits_listed : (scan : ℕ) (c d : Course X) (wanting : Bool) (before after : List Wanted) → IsCourse scope c → CourseLists scope scan c d before after → (IsSome c.end → (d ≡ c) × (after ≡ before)) → Waits scope c wanting → Waits scope d wanting
  waits_listed scan c d wanting before after course l still w = waits_by scan c d wanting before after course l c.end refl still w

  pub is_waiting : (c : Course X) (version : Version) (asked : ℕ) (wanting : Bool) → Waits scope c wanting → IsWaiting (view_of scope c version asked wanting)
  is_waiting c version asked wanting w = λ off none. w.place off (none_ended c.walk c.end none)

  -- ---- each call is listed

  call_listed : (items : Option (ItemsCall X)) (parents : Option (ParentsCall X)) → core.CallIsListed items parents
      → CallIsListed (option_map (λ (i : ItemsCall X). present_of i.call) items) (option_map (λ (o : ParentsCall X). present_of o.call) parents)
  call_listed (Some i) parents l = l
  call_listed None (Some o) l = l
  call_listed None None l = l

  pub all_listed : (c : Course X) (version : Version) (asked : ℕ) (wanting : Bool) → (c.end ≡ None → core.NoneIsLeft c) → IsListed (view_of scope c version asked wanting)
  all_listed c version asked wanting all = λ none. let left = all (none_ended c.walk c.end none) in (call_listed c.items c.parents left.0, left.1)

  -- ---- a scan that is decided

  some_ended : (c : Course X) (o : Option CourseEnd) → IsSome (value_of (end_view c.walk o)) → IsSome o
  some_ended c None is = is
  some_ended c (Some end) is = refl

  pub decided_keeps : (c d : Course X) (version : Version) (asked : ℕ) (wanting : Bool) (before after : List Wanted) → (IsSome c.end → (d ≡ c) × (after ≡ before)) → IsSome (view_of scope c version asked wanting).end
      → (after ≡ before) × (state_of scope d ≡ state_of scope c)
  decided_keeps c d version asked wanting before after still is = let s = still (some_ended c c.end is) in (s.1, ap (state_of scope) s.0)
