-- Each step of a scan keeps it in agreement with any answers.
use Rattle.std.proofs.Common.{◌≡◌, ℕ, ◌+◌, Bool, true, false, ◌&&◌, List, [], ◌∷◌, ◌++◌, length, Option, Some, None, refl, sym, ap, subst, ◌∙◌, append_assoc, nat_lt, add-zero, ◌≤◌, ◌-◌, drop, arith, if◌then◌else◌}
use Rattle.std.proofs.lemmas.Bool.Decides.{nat_tests}
use Rattle.std.proofs.lemmas.List.{append-nil, length-append, length-drop}
use Rattle.std.specs.List.{slice_get}
use Rattle.sp_model.specs.declared.call.Call.TheVariants as call
use Rattle.sp_model.specs.declared.call.Piece.{Piece}
use Rattle.sp_model.specs.declared.call.Piece.TheVariants as piece
use Rattle.row_flight.specs.Hearing.{IsPieceOfSeen}
use Rattle.scan_core.specs.Hearing.{inner_heard, InnerTakes, outer_heard, OuterTakes}
use Rattle.sp_value.specs.declared.cell.Cell.{Cell}
use Rattle.sp_model.specs.RowOf.{columns_named}
use Rattle.sp_model.specs.Settling.{Answers, Verdict, Accept, Again, Refuse, Open, judged}
use Rattle.sp_model.specs.Walk.{with_row, parent_source, parent_of}
use Rattle.sp_model.specs.declared.call.Ending.{Ending}
use Rattle.sp_model.specs.declared.declaration.TableDecl.{TableDecl}
use Rattle.sp_model.specs.declared.outcome.Row.{Row}
use Rattle.sp_model.specs.declared.outcome.Walk.{Walk}
use Rattle.sp_model.specs.declared.outcome.Walk.TheVariants.{Going, Full, Failed, Waiting}
use Rattle.sp_model.specs.declared.scan.ScanRequest.{ScanRequest}
use Rattle.scan_laws.proofs.Stepping.{item_comes, ending_comes, parent_comes, parents_end, item_goes_into_flight, row_is_taken, limit_is_reached, row_fails, inner_is_accepted, inner_is_asked_again, inner_is_refused, too_many_items, child_begins, outer_is_accepted, outer_is_asked_again, outer_is_refused, scan_finishes}
use Rattle.scan_laws.specs.Flights.{AreApart}
use Rattle.scan_laws.specs.Reaching.{Made}
use Rattle.scan_laws.specs.Scans.{HasCome, InnerCame, OuterCame, Agrees, HasListed, Keeps}
use Rattle.scan_laws.specs.States.{Outer, Inner, FlightRow, Scan}
use Rattle.scan_laws.specs.Steps.{item_came, parent_came, past, ended_so, inner_accepted, inner_again, outer_accepted, outer_again}
use Rattle.scan_core.specs.Advances.{row_now, StandsBy, is_too_many, InnerStands, OuterStands, Step, RowDecides, ItemFills, CallEnds, ListBegins, ParentsEnd, NothingIsLeft, Runs, Advances}

-- a state that is known by an equation
at : (table : TableDecl) (request : ScanRequest) (answers : Answers) (st u t : Scan) → t ≡ u → Keeps table request answers st u [] → Keeps table request answers st t []
at table request answers st u t e k = subst (λ (x : Scan). Keeps table request answers st x []) (sym e) k

decides_so : (table : TableDecl) (request : ScanRequest) (answers : Answers) (st t : Scan) (row : FlightRow) (rows : List FlightRow) (r : Row) (w : Walk) → AreApart table → Agrees table request answers st → st.end ≡ None
    → st.flight ≡ row ∷ rows → row_now table request row ≡ Some r → with_row request.conditions (columns_named request.columns table.columns) request.limit (Some r) st.now ≡ w → StandsBy st rows w t
    → Keeps table request answers st t []
decides_so table request answers st t row rows r (Going s) apart a on f k e so = at table request answers st (past st rows s None) t so (row_is_taken table request answers st row rows r s apart a on f k e)
decides_so table request answers st t row rows r (Full s) apart a on f k e so = at table request answers st (past st rows s (Some (Full s))) t so (limit_is_reached table request answers st row rows r s apart a on f k e)
decides_so table request answers st t row rows r (Failed number column cause) apart a on f k e so =
    at table request answers st (ended_so st (Failed number column cause)) t so (row_fails table request answers st row rows r number column cause apart a on f k e)
decides_so table request answers st t row rows r Waiting apart a on f k e so = absurd so

inner_so : (table : TableDecl) (request : ScanRequest) (answers : Answers) (st t : Scan) (i : Inner) (e : Ending) (v : Verdict) (many : Bool) → Agrees table request answers st → st.end ≡ None
    → st.inner ≡ Some i → i.ending ≡ Some e → judged i.source.rule i.attempt (Some e) ≡ v → is_too_many i (length st.inside) ≡ many → InnerStands st i v many t → Keeps table request answers st t []
inner_so table request answers st t i e Accept false a on is came v many so = at table request answers st (inner_accepted st) t so (inner_is_accepted table request answers st i e a on is came v many)
inner_so table request answers st t i e Accept true a on is came v many so =
    let none : length st.inside ≡ 0 = ap length so.0.1 in
    let some : (i.source.single && nat_lt 1 i.decided) ≡ true = ap (λ n. i.source.single && nat_lt 1 n) (sym (ap (λ k. i.decided + k) none ∙ add-zero i.decided)) ∙ many in
    at table request answers st _ t so.1 (too_many_items table request answers st i e a on is so.0.0 so.0.1 came v some)
inner_so table request answers st t i e Again many a on is came v m so = at table request answers st (inner_again st i) t so.1 (inner_is_asked_again table request answers st i e a on is so.0.0 so.0.1 came v)
inner_so table request answers st t i e (Refuse text) many a on is came v m so = at table request answers st _ t so.1 (inner_is_refused table request answers st i e text a on is so.0.0 so.0.1 came v)
inner_so table request answers st t i e Open many a on is came v m so = absurd so

outer_so : (table : TableDecl) (request : ScanRequest) (answers : Answers) (st t : Scan) (o : Outer) (e : Ending) (v : Verdict) → Agrees table request answers st → st.end ≡ None
    → st.outer ≡ Some o → st.inner ≡ None → o.waiting ≡ [] → o.ending ≡ Some e → judged (parent_source table (parent_of table.list)).rule o.attempt (Some e) ≡ v
    → OuterStands (parent_source table (parent_of table.list)) st o v t → Keeps table request answers st t []
outer_so table request answers st t o e Accept a on is closed walked came v so = at table request answers st (outer_accepted st) t so (outer_is_accepted table request answers st o e a on is closed walked came v)
outer_so table request answers st t o e Again a on is closed walked came v so = at table request answers st (outer_again st o) t so.1 (outer_is_asked_again table request answers st o e a on is closed so.0 walked came v)
outer_so table request answers st t o e (Refuse text) a on is closed walked came v so = at table request answers st _ t so.1 (outer_is_refused table request answers st o e text a on is closed so.0 walked came v)
outer_so table request answers st t o e Open a on is closed walked came v so = absurd so

pub step_keeps : (table : TableDecl) (request : ScanRequest) (window : ℕ) (answers : Answers) (st t : Scan) → AreApart table → Agrees table request answers st → st.end ≡ None → Step table request window st t → Keeps table request answers st t []
step_keeps table request window answers st t apart a on (RowDecides d) = decides_so table request answers st t d.row d.rows d.seen _ apart a on d.first d.known refl d.stands
step_keeps table request window answers st t apart a on (ItemFills f) = at table request answers st _ t f.stands (item_goes_into_flight table request answers st f.item f.waiting a on f.first)
step_keeps table request window answers st t apart a on (CallEnds e) = inner_so table request answers st t e.inner e.ending _ _ a on e.is e.came refl refl e.stands
step_keeps table request window answers st t apart a on (ListBegins b) = at table request answers st _ t b.stands (child_begins table request answers st b.outer b.parent b.parents a on b.is b.closed b.first)
step_keeps table request window answers st t apart a on (ParentsEnd e) = outer_so table request answers st t e.outer e.ending _ a on e.is e.closed e.walked e.came refl e.stands
step_keeps table request window answers st t apart a on (NothingIsLeft f) = at table request answers st _ t f.stands (scan_finishes table request answers st a on f.outer f.inner f.decided)

-- ---- one after another

pub keeps_none : (table : TableDecl) (request : ScanRequest) (answers : Answers) (st t : Scan) → t ≡ st → Agrees table request answers st → Keeps table request answers st t []
keeps_none table request answers st t e a = at table request answers st st t e (record {
  agrees = a;
  listed = λ calls h. subst (λ (xs : List Made). HasListed table request answers st xs) (sym (append-nil calls)) h;
})

pub keeps_then : (table : TableDecl) (request : ScanRequest) (answers : Answers) (st u t : Scan) (xs ys : List Made) → Keeps table request answers st u xs → Keeps table request answers u t ys → Keeps table request answers st t (xs ++ ys)
keeps_then table request answers st u t xs ys a b = record {
  agrees = b.agrees;
  listed = λ calls h. subst (λ (zs : List Made). HasListed table request answers t zs) (append_assoc calls xs ys) (b.listed (calls ++ xs) (a.listed calls h));
}

runs_keep : (table : TableDecl) (request : ScanRequest) (window : ℕ) (answers : Answers) (us : List Scan) (st t : Scan) → AreApart table → Agrees table request answers st → Runs table request window us st t → Keeps table request answers st t []
runs_keep table request window answers [] st t apart a r = keeps_none table request answers st t r a
runs_keep table request window answers (u ∷ us) st t apart a r =
    let first : Keeps table request answers st u [] = step_keeps table request window answers st u apart a r.0 r.1 in
    keeps_then table request answers st u t [] [] first (runs_keep table request window answers us u t apart first.agrees r.2)

-- a scan that goes on by itself lists nothing, and agrees with whatever it agreed with
pub advance_keeps : (table : TableDecl) (request : ScanRequest) (window : ℕ) (answers : Answers) (st t : Scan) → AreApart table → Agrees table request answers st → Advances table request window st t → Keeps table request answers st t []
advance_keeps table request window answers st t apart a v = runs_keep table request window answers v.through st t apart a v.runs

-- ---- steps are added

runs_more : (table : TableDecl) (request : ScanRequest) (window : ℕ) (us : List Scan) (st u t : Scan) → Runs table request window us st u → u.end ≡ None → Step table request window u t → Runs table request window (us ++ t ∷ []) st t
runs_more table request window [] st u t r on s =
    (ap (λ x. x.end) (sym r) ∙ on, subst (λ (x : Scan). Step table request window x t) r s, refl)
runs_more table request window (v ∷ vs) st u t r on s = (r.0, r.1, runs_more table request window vs v u t r.2 on s)

pub advances_none : (table : TableDecl) (request : ScanRequest) (window : ℕ) (st t : Scan) → t ≡ st → Advances table request window st t
advances_none table request window st t e = record { through = []; runs = e }

pub advances_more : (table : TableDecl) (request : ScanRequest) (window : ℕ) (st u t : Scan) → Advances table request window st u → u.end ≡ None → Step table request window u t → Advances table request window st t
advances_more table request window st u t a on s = record { through = a.through ++ t ∷ []; runs = runs_more table request window a.through st u t a.runs on s }

-- ---- pieces

all_came : (k : ℕ) (xs items later : List Cell) → drop k xs ≡ items ++ later → k ≤ length xs → k + length items ≤ length xs
all_came k xs items later rest within =
    let d : length (drop k xs) ≡ length xs - k = length-drop k xs in
    let e : length (drop k xs) ≡ length items + length later = ap length rest ∙ length-append items later in
    omega arith

inner_within : (answers : Answers) (st : Scan) (i : Inner) → InnerCame answers st.inside st.inner → st.inner ≡ Some i → i.decided + length st.inside ≤ length (answers i.asked i.attempt).items
inner_within answers st i came is =
    let h : HasCome i.decided st.inside i.ending i.listed (answers i.asked i.attempt) = subst (λ (o : Option Inner). InnerCame answers st.inside o) is came in
    all_came i.decided (answers i.asked i.attempt).items st.inside h.later h.rest h.within

item_keeps : (table : TableDecl) (request : ScanRequest) (answers : Answers) (st : Scan) (i : Inner) (place : ℕ) (x : Cell) (lt : Bool) → nat_lt place (i.decided + length st.inside) ≡ lt → Agrees table request answers st → st.end ≡ None → st.inner ≡ Some i
    → i.listed ≡ true → i.ending ≡ None → place ≤ i.decided + length st.inside → slice_get (answers i.asked i.attempt).items place ≡ Some x → Keeps table request answers st (if lt then st else item_came st x) []
item_keeps table request answers st i place x true e a on is listed going next piece = keeps_none table request answers st st refl a
item_keeps table request answers st i place x false e a on is listed going next piece =
    let past : i.decided + length st.inside ≤ place = grind (arith, nat_tests, e) in
    let here : place ≡ i.decided + length st.inside = omega arith in
    item_comes table request answers st i x a on is listed going (ap (slice_get (answers i.asked i.attempt).items) (sym here) ∙ piece)

-- a piece of what is answered keeps a scan in agreement with it
pub inner_hears : (table : TableDecl) (request : ScanRequest) (answers : Answers) (st : Scan) (i : Inner) (p : Piece) → Agrees table request answers st → st.end ≡ None → st.inner ≡ Some i → InnerTakes st i p → IsPieceOfSeen (answers i.asked i.attempt) p
    → Keeps table request answers st (inner_heard st i p) []
inner_hears table request answers st i (piece.Item place x) a on is takes of = item_keeps table request answers st i place x (nat_lt place (i.decided + length st.inside)) refl a on is takes.listed takes.going takes.next of
inner_hears table request answers st i (piece.Ending count e) a on is takes of =
    let within : i.decided + length st.inside ≤ length (answers i.asked i.attempt).items = inner_within answers st i a.inner is in
    let next : count ≤ i.decided + length st.inside = takes.next in
    let all : count ≡ length (answers i.asked i.attempt).items = of.0 in
    let same : length (answers i.asked i.attempt).items ≡ i.decided + length st.inside = omega arith in
    ending_comes table request answers st i e a on is takes.listed same of.1

parent_keeps : (table : TableDecl) (request : ScanRequest) (answers : Answers) (st : Scan) (o : Outer) (place : ℕ) (x : Cell) (lt : Bool) → nat_lt place (o.walked + length o.waiting) ≡ lt → Agrees table request answers st → st.end ≡ None → st.outer ≡ Some o
    → o.listed ≡ true → o.ending ≡ None → place ≤ o.walked + length o.waiting → slice_get (answers (call.Parents table.name) o.attempt).items place ≡ Some x → Keeps table request answers st (if lt then st else parent_came st o x) []
parent_keeps table request answers st o place x true e a on is listed going next piece = keeps_none table request answers st st refl a
parent_keeps table request answers st o place x false e a on is listed going next piece =
    let past : o.walked + length o.waiting ≤ place = grind (arith, nat_tests, e) in
    let here : place ≡ o.walked + length o.waiting = omega arith in
    parent_comes table request answers st o x a on is listed going (ap (slice_get (answers (call.Parents table.name) o.attempt).items) (sym here) ∙ piece)

outer_within : (table : TableDecl) (answers : Answers) (st : Scan) (o : Outer) → OuterCame table answers st.outer → st.outer ≡ Some o → o.walked + length o.waiting ≤ length (answers (call.Parents table.name) o.attempt).items
outer_within table answers st o came is =
    let h : HasCome o.walked o.waiting o.ending o.listed (answers (call.Parents table.name) o.attempt) = subst (λ (x : Option Outer). OuterCame table answers x) is came in
    all_came o.walked (answers (call.Parents table.name) o.attempt).items o.waiting h.later h.rest h.within

pub outer_hears : (table : TableDecl) (request : ScanRequest) (answers : Answers) (st : Scan) (o : Outer) (p : Piece) → Agrees table request answers st → st.end ≡ None → st.outer ≡ Some o → OuterTakes o p → IsPieceOfSeen (answers (call.Parents table.name) o.attempt) p
    → Keeps table request answers st (outer_heard st o p) []
outer_hears table request answers st o (piece.Item place x) a on is takes of = parent_keeps table request answers st o place x (nat_lt place (o.walked + length o.waiting)) refl a on is takes.listed takes.going takes.next of
outer_hears table request answers st o (piece.Ending count e) a on is takes of =
    let within : o.walked + length o.waiting ≤ length (answers (call.Parents table.name) o.attempt).items = outer_within table answers st o a.outer is in
    let next : count ≤ o.walked + length o.waiting = takes.next in
    let all : count ≡ length (answers (call.Parents table.name) o.attempt).items = of.0 in
    let same : length (answers (call.Parents table.name) o.attempt).items ≡ o.walked + length o.waiting = omega arith in
    parents_end table request answers st o e a on is takes.listed same of.1
