-- Each step leaves less to do.
use Rattle.std.proofs.Common.{◌≡◌, ◌<◌, ◌+◌, ◌*◌, ℕ, suc, Bool, true, false, List, [], ◌∷◌, ◌++◌, length, Option, Some, None, refl, sym, ap, subst, arith}
use Rattle.std.proofs.lemmas.List.{length-append}
use Rattle.sp_value.specs.declared.cell.Cell.{Cell}
use Rattle.sp_model.specs.Settling.{Verdict, Accept, Again, Refuse, Open}
use Rattle.sp_model.specs.Walk.{Source}
use Rattle.sp_model.specs.declared.call.Ending.{Ending}
use Rattle.sp_model.specs.declared.declaration.TableDecl.{TableDecl}
use Rattle.sp_model.specs.declared.outcome.Walk.{Walk}
use Rattle.sp_model.specs.declared.outcome.Walk.TheVariants.{Going, Full, Failed, Waiting}
use Rattle.sp_model.specs.declared.outcome.WalkState.{WalkState}
use Rattle.sp_model.specs.declared.scan.ScanRequest.{ScanRequest}
use Rattle.sp_model.specs.declared.scan.Cause.TheVariants.{Error, TooMany}
use Rattle.scan_laws.specs.States.{Outer, Inner, FlightRow, Scan}
use Rattle.scan_laws.specs.Steps.{fresh_row, in_flight, past, inner_past, ended_so, inner_accepted, inner_again, child_begun, outer_accepted, outer_again}
use Rattle.scan_core.specs.Advances.{StandsBy, InnerStands, OuterStands, Step, RowDecides, ItemFills, CallEnds, ListBegins, ParentsEnd, NothingIsLeft}
use Rattle.scan_core.specs.Next.{outer_source}
use Rattle.scan_core.specs.Weights.{one_if_some, inner_weight, outer_weight, end_weight, weight}

-- a state that is known by an equation
less : (st u t : Scan) → t ≡ u → weight u < weight st → weight t < weight st
less st u t e lt = subst (λ (x : Scan). weight x < weight st) (sym e) lt

inner_same : (i : Option Inner) (xs : List Cell) (s : WalkState) → inner_weight (inner_past i xs s) ≡ inner_weight i
inner_same None [] s = refl
inner_same (Some i) [] s = refl
inner_same i (x ∷ xs) s = refl

ended_less : (st : Scan) (w : Walk) → st.end ≡ None → weight (ended_so st w) < weight st
ended_less st w on = let e : end_weight st.end ≡ 1 = ap end_weight on in omega arith

so_less : (st t : Scan) (w : Walk) → st.end ≡ None → t ≡ ended_so st w → weight t < weight st
so_less st t w on e = less st (ended_so st w) t e (ended_less st w on)

past_less : (st : Scan) (row : FlightRow) (rows : List FlightRow) (s : WalkState) (end : Option Walk) → st.end ≡ None → st.flight ≡ row ∷ rows → weight (past st rows s end) < weight st
past_less st row rows s None on first =
    let e : end_weight st.end ≡ 1 = ap end_weight on in
    let f : length st.flight ≡ suc (length rows) = ap length first in
    let i : inner_weight (inner_past st.inner st.first st.now) ≡ inner_weight st.inner = inner_same st.inner st.first st.now in
    omega arith
past_less st row rows s (Some w) on first =
    let e : end_weight st.end ≡ 1 = ap end_weight on in
    let f : length st.flight ≡ suc (length rows) = ap length first in
    let i : inner_weight (inner_past st.inner st.first st.now) ≡ inner_weight st.inner = inner_same st.inner st.first st.now in
    omega arith

decides_less : (st t : Scan) (row : FlightRow) (rows : List FlightRow) (w : Walk) → st.end ≡ None → st.flight ≡ row ∷ rows → StandsBy st rows w t → weight t < weight st
decides_less st t row rows (Going s) on first so = less st (past st rows s None) t so (past_less st row rows s None on first)
decides_less st t row rows (Full s) on first so = less st (past st rows s (Some (Full s))) t so (past_less st row rows s (Some (Full s)) on first)
decides_less st t row rows (Failed number column cause) on first so = less st (ended_so st (Failed number column cause)) t so (ended_less st (Failed number column cause) on)
decides_less st t row rows Waiting on first so = absurd so

fills_less : (st : Scan) (x : Cell) (waiting : List Cell) → st.waiting ≡ x ∷ waiting → weight (in_flight st x waiting) < weight st
fills_less st x waiting first =
    let w : length st.waiting ≡ suc (length waiting) = ap length first in
    let f : length (st.flight ++ (fresh_row x ∷ [])) ≡ length st.flight + 1 = length-append st.flight (fresh_row x ∷ []) in
    omega arith

inner_less : (st t : Scan) (i : Inner) (e : Ending) (v : Verdict) (many : Bool) → st.end ≡ None → st.inner ≡ Some i → i.ending ≡ Some e → InnerStands st i v many t → weight t < weight st
inner_less st t i e Accept false on is came so =
    let w : inner_weight st.inner ≡ 1 + one_if_some i.ending = ap inner_weight is in
    less st (inner_accepted st) t so (omega arith)
inner_less st t i e Accept true on is came so = so_less st t (Failed (suc st.now.items) None (TooMany i.source.function i.decided)) on so.1
inner_less st t i e Again many on is came so =
    let w : inner_weight st.inner ≡ 1 + one_if_some i.ending = ap inner_weight is in
    let c : one_if_some i.ending ≡ 1 = ap one_if_some came in
    less st (inner_again st i) t so.1 (omega arith)
inner_less st t i e (Refuse text) many on is came so = so_less st t (Failed (suc st.now.items) None (Error i.source.function i.attempt text)) on so.1
inner_less st t i e Open many on is came so = absurd so

outer_less : (source : Source) (st t : Scan) (o : Outer) (e : Ending) (v : Verdict) → st.end ≡ None → st.outer ≡ Some o → o.waiting ≡ [] → o.ending ≡ Some e → OuterStands source st o v t → weight t < weight st
outer_less source st t o e Accept on is walked came so =
    let w : outer_weight st.outer ≡ 1 + (one_if_some o.ending + 2 * length o.waiting) = ap outer_weight is in
    less st (outer_accepted st) t so (omega arith)
outer_less source st t o e Again on is walked came so =
    let w : outer_weight st.outer ≡ 1 + (one_if_some o.ending + 2 * length o.waiting) = ap outer_weight is in
    let c : one_if_some o.ending ≡ 1 = ap one_if_some came in
    less st (outer_again st o) t so.1 (omega arith)
outer_less source st t o e (Refuse text) on is walked came so = so_less st t (Failed (suc st.now.items) None (Error source.function o.attempt text)) on so.1
outer_less source st t o e Open on is walked came so = absurd so

child_less : (table : TableDecl) (request : ScanRequest) (st : Scan) (o : Outer) (parent : Cell) (parents : List Cell) → st.outer ≡ Some o → st.inner ≡ None → o.waiting ≡ parent ∷ parents → weight (child_begun table request st o parent parents) < weight st
child_less table request st o parent parents is closed first =
    let w : outer_weight st.outer ≡ 1 + (one_if_some o.ending + 2 * length o.waiting) = ap outer_weight is in
    let i : inner_weight st.inner ≡ 0 = ap inner_weight closed in
    let p : length o.waiting ≡ suc (length parents) = ap length first in
    omega arith

pub step_less : (table : TableDecl) (request : ScanRequest) (window : ℕ) (st t : Scan) → st.end ≡ None → Step table request window st t → weight t < weight st
step_less table request window st t on (RowDecides d) = decides_less st t d.row d.rows _ on d.first d.stands
step_less table request window st t on (ItemFills f) = less st _ t f.stands (fills_less st f.item f.waiting f.first)
step_less table request window st t on (CallEnds e) = inner_less st t e.inner e.ending _ _ on e.is e.came e.stands
step_less table request window st t on (ListBegins b) = less st _ t b.stands (child_less table request st b.outer b.parent b.parents b.is b.closed b.first)
step_less table request window st t on (ParentsEnd e) = outer_less (outer_source table) st t e.outer e.ending _ on e.is e.walked e.came e.stands
step_less table request window st t on (NothingIsLeft f) = so_less st t (Going st.now) on f.stands
