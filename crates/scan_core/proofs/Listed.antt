-- A call that is listed, as a step of the scan's state.
use Rattle.std.proofs.Common.{◌≡◌, ◌≤◌, List, [], ◌∷◌, ◌++◌, suc, length, Bool, true, false, ℕ, Option, Some, None, refl, sym, ap, subst, ◌∙◌}
use Rattle.row_flight.proofs.ListedRows.{lists_none}
use Rattle.row_flight.specs.Flying.{InFlight, Seated, rows_in}
use Rattle.row_flight.specs.Jobs.{DifferInListed, Lists}
use Rattle.row_flight.specs.declared.frame.Wanted.{Wanted}
use Rattle.scan_laws.specs.Scans.{items_of}
use Rattle.scan_laws.specs.Steps.{inner_listed, outer_listed}
use Rattle.scan_core.proofs.Heard.{with_parents}
use Rattle.scan_core.proofs.Moving.{form_kept}
use Rattle.scan_core.specs.Calls.{inner_of, outer_of}
use Rattle.scan_core.specs.Courses.{undecided, state_of, IsCourse, IsItemsCall, IsParentsCall}
use Rattle.scan_core.specs.Listing.{items_slot, items_function, items_listed, parents_listed, IsPut, CallLists, ListsNone, ListsItems, ListsParents, CourseLists}
use Rattle.scan_core.specs.declared.calls.ItemsCall.{ItemsCall}
use Rattle.scan_core.specs.declared.calls.ParentsCall.{ParentsCall}
use Rattle.scan_core.specs.declared.course.Course.{Course}
use Rattle.scan_core.specs.declared.scope.ScanScope.{ScanScope}

-- the fields fit together with the inner call as it is then
pub with_items : {X : Type 0} (scope : ScanScope) (s : Course X) (d : ItemsCall X) → IsCourse scope s → IsItemsCall scope s.before (length (undecided s)) (length s.walk.rows) d → IsCourse scope (record s { items = Some d })
with_items scope s d form call = record {
  front = form.front;
  closed = λ none. absurd (cc);
  items = λ i w. let one : Some d ≡ Some i = w in let same : d ≡ i = cc in subst (λ z. IsItemsCall scope s.before (length (undecided s)) (length s.walk.rows) z) same call;
  parents = form.parents;
  flight = form.flight;
  window = form.window;
  room = form.room;
  few = form.few;
}

pub items_form : {X : Type 0} (scope : ScanScope) (before undecided kept : ℕ) (c d : ItemsCall X) → IsItemsCall scope before undecided kept c → d ≡ items_listed c → IsItemsCall scope before undecided kept d
items_form scope before undecided kept c d form is = subst (λ z. IsItemsCall scope before undecided kept z) (sym is) (record {
  call = record { connection = form.call.connection; version = form.call.version; attempt = form.call.attempt; next = form.call.next; few = form.call.few; drained = form.call.drained };
  have = form.have;
  entered = form.entered;
})

pub parents_form : {X : Type 0} (scope : ScanScope) (c d : ParentsCall X) → IsParentsCall scope c → d ≡ parents_listed c → IsParentsCall scope d
parents_form scope c d form is = subst (λ z. IsParentsCall scope z) (sym is) (record {
  call = record { connection = form.call.connection; version = form.call.version; attempt = form.call.attempt; next = form.call.next; few = form.call.few; drained = form.call.drained };
  access = form.access;
  asked = form.asked;
  have = form.have;
})

pub items_state : {X : Type 0} (scope : ScanScope) (s : Course X) (c d : ItemsCall X) → d ≡ items_listed c → state_of scope (record s { items = Some d }) ≡ inner_listed (state_of scope s) (inner_of scope.items s.walk c)
items_state scope s c d is = ap (λ z. state_of scope (record s { items = Some z })) is

pub parents_state : {X : Type 0} (scope : ScanScope) (s : Course X) (c d : ParentsCall X) → d ≡ parents_listed c → state_of scope (record s { parents = Some d }) ≡ outer_listed (state_of scope s) (outer_of c)
parents_state scope s c d is = ap (λ z. state_of scope (record s { parents = Some z })) is

-- an attempt is listed or it isn't
pub by_listed : (P : Type 0) (b : Bool) → (b ≡ false → P) → (b ≡ true → P) → P
by_listed P true no_way here = here refl
by_listed P false here no_way = here refl

-- ---- for the functions that list

pub items_lists : {X : Type 0} (scope : ScanScope) (s : Course X) (c d : ItemsCall X) (scan slot function : ℕ) (before after : List Wanted) → s.items ≡ Some c → slot ≡ items_slot scope.request.access → function ≡ items_function scope.request.access
    → (c.call.listed ≡ false → (d ≡ items_listed c) × IsPut c.call scan slot function before after) → (c.call.listed ≡ true → (d ≡ c) × (after ≡ before)) → CallLists scope scan s (record s { items = Some d }) before after
items_lists {X} scope s c d scan slot function before after is slots functions lists listed =
    by_listed (CallLists scope scan s (record s { items = Some d }) before after) c.call.listed
    (λ off. let u = lists off in
    ListsItems c is off (ap (λ (z : ItemsCall X). record s { items = Some z }) u.0)
    (subst (λ (n : ℕ). IsPut c.call scan (items_slot scope.request.access) n before after) functions (subst (λ (n : ℕ). IsPut c.call scan n function before after) slots u.1)))
    (λ on. let u = listed on in ListsNone (ap (λ (o : Option (ItemsCall X)). record s { items = o }) (ap (λ (z : ItemsCall X). Some z) u.0 ∙ sym is)) u.1)

pub parents_lists : {X : Type 0} (scope : ScanScope) (s : Course X) (c d : ParentsCall X) (scan : ℕ) (before after : List Wanted) → s.items ≡ None → s.parents ≡ Some c
    → (c.call.listed ≡ false → (d ≡ parents_listed c) × IsPut c.call scan 0 64 before after) → (c.call.listed ≡ true → (d ≡ c) × (after ≡ before)) → CallLists scope scan s (record s { parents = Some d }) before after
parents_lists {X} scope s c d scan before after closed is lists listed =
    by_listed (CallLists scope scan s (record s { parents = Some d }) before after) c.call.listed
    (λ off. let u = lists off in ListsParents c closed is off (ap (λ (z : ParentsCall X). record s { parents = Some z }) u.0) u.1)
    (λ on. let u = listed on in ListsNone (ap (λ (o : Option (ParentsCall X)). record s { parents = o }) (ap (λ (z : ParentsCall X). Some z) u.0 ∙ sym is)) u.1)

pub items_on : {X : Type 0} (c d i : ItemsCall X) → Some d ≡ Some i → (c.call.listed ≡ false → d ≡ items_listed c) → (c.call.listed ≡ true → d ≡ c) → i.call.listed ≡ true
items_on {X} c d i is lists listed =
    let same : d ≡ i = cc in
    ap (λ (z : ItemsCall X). z.call.listed) (sym same) ∙ by_listed (d.call.listed ≡ true) c.call.listed (λ off. ap (λ (z : ItemsCall X). z.call.listed) (lists off)) (λ on. ap (λ (z : ItemsCall X). z.call.listed) (listed on) ∙ on)

pub parents_on : {X : Type 0} (c d o : ParentsCall X) → Some d ≡ Some o → (c.call.listed ≡ false → d ≡ parents_listed c) → (c.call.listed ≡ true → d ≡ c) → o.call.listed ≡ true
parents_on {X} c d o is lists listed =
    let same : d ≡ o = cc in
    ap (λ (z : ParentsCall X). z.call.listed) (sym same) ∙ by_listed (d.call.listed ≡ true) c.call.listed (λ off. ap (λ (z : ParentsCall X). z.call.listed) (lists off)) (λ on. ap (λ (z : ParentsCall X). z.call.listed) (listed on) ∙ on)

-- nothing is listed
pub none_listed : {X : Type 0} (scope : ScanScope) (scan : ℕ) (s : Course X) (before after : List Wanted) → after ≡ before → CourseLists scope scan s s before after
none_listed scope scan s before after e = record { mid = s; jobs = after; call = ListsNone refl e; rows = lists_none scan s.flight after; rest = refl }

-- a call, and no row's
pub call_listed : {X : Type 0} (scope : ScanScope) (scan : ℕ) (s t : Course X) (before after : List Wanted) → CallLists scope scan s t before after → CourseLists scope scan s t before after
call_listed scope scan s t before after call = record { mid = t; jobs = after; call = call; rows = lists_none scan t.flight after; rest = refl }

pub items_kept : {X : Type 0} (scope : ScanScope) (s : Course X) (c d : ItemsCall X) → IsCourse scope s → s.items ≡ Some c → (c.call.listed ≡ false → d ≡ items_listed c) → (c.call.listed ≡ true → d ≡ c) → IsCourse scope (record s { items = Some d })
items_kept {X} scope s c d form is lists listed =
    with_items scope s d form
    (by_listed (IsItemsCall scope s.before (length (undecided s)) (length s.walk.rows) d) c.call.listed
    (λ l. items_form scope s.before (length (undecided s)) (length s.walk.rows) c d (form.items c is) (lists l))
    (λ l. subst (λ (z : ItemsCall X). IsItemsCall scope s.before (length (undecided s)) (length s.walk.rows) z) (sym (listed l)) (form.items c is)))

pub parents_kept : {X : Type 0} (scope : ScanScope) (s : Course X) (c d : ParentsCall X) → IsCourse scope s → s.parents ≡ Some c → (c.call.listed ≡ false → d ≡ parents_listed c) → (c.call.listed ≡ true → d ≡ c) → IsCourse scope (record s { parents = Some d })
parents_kept {X} scope s c d form is lists listed =
    with_parents scope s d form
    (by_listed (IsParentsCall scope d) c.call.listed
    (λ l. parents_form scope c d (form.parents c is) (lists l))
    (λ l. subst (λ (z : ParentsCall X). IsParentsCall scope z) (sym (listed l)) (form.parents c is)))

-- ---- the rows in flight

pub differ_items : (xs ys : List Seated) → DifferInListed xs ys → items_of (rows_in ys) ≡ items_of (rows_in xs)
differ_items [] [] d = refl
differ_items [] (y ∷ ys) d = absurd d
differ_items (x ∷ xs) [] d = absurd d
differ_items (x ∷ xs) (y ∷ ys) d = ap (λ g. g.item ∷ items_of (rows_in ys)) d.1.graph ∙ ap (λ zs. x.row.graph.item ∷ zs) (differ_items xs ys d.2)

differ_length : (xs ys : List Seated) → DifferInListed xs ys → length ys ≡ length xs
differ_length [] [] d = refl
differ_length [] (y ∷ ys) d = absurd d
differ_length (x ∷ xs) [] d = absurd d
differ_length (x ∷ xs) (y ∷ ys) d = ap (λ n. suc n) (differ_length xs ys d.2)

pub rows_listed : {X : Type 0} (scope : ScanScope) (scan : ℕ) (s : Course X) (flight : InFlight) (before after : List Wanted) → IsCourse scope s → Lists scan s.flight flight before after → IsCourse scope (record s { flight = flight })
rows_listed scope scan s flight before after form lists =
    form_kept scope s (record s { flight = flight }) (ap (λ xs. xs ++ s.waiting.items) (differ_items s.flight.rows flight.rows lists.differ)) refl refl refl refl
    (record {
      name = ap (λ z. z.table) lists.frame ∙ form.flight.name;
      functions = ap (λ z. z.functions) lists.plan ∙ form.flight.functions;
      rules = ap (λ z. z.rules) lists.plan ∙ form.flight.rules;
      columns = ap (λ z. z.columns) lists.plan ∙ form.flight.columns;
    })
    (lists.window ∙ form.window) (subst (λ (n : ℕ). n ≤ scope.window) (sym (differ_length s.flight.rows flight.rows lists.differ)) form.room) form
