-- A scan that goes on by no rule waits for its first undecided place.
use Rattle.std.proofs.Common.{◌≡◌, ◌≤◌, ℕ, suc, Bool, true, false, List, [], ◌∷◌, ◌++◌, length, Option, Some, None, if◌then◌else◌, refl, ap, ◌∙◌, arith}
use Rattle.sp_value.specs.declared.cell.Cell.{Cell}
use Rattle.sp_model.specs.RowOf.{columns_named}
use Rattle.sp_model.specs.Settling.{Verdict, Accept, Again, Refuse, Open, judged, is_ignored, is_retried}
use Rattle.sp_model.specs.Walk.{meets, is_reached, with_row, with_row_kept}
use Rattle.sp_model.specs.declared.call.Condition.{Condition}
use Rattle.sp_model.specs.declared.call.Ending.{Ending}
use Rattle.sp_model.specs.declared.call.Ending.TheVariants.{End, Error}
use Rattle.sp_model.specs.declared.declaration.ColumnDecl.{ColumnDecl}
use Rattle.sp_model.specs.declared.declaration.Rule.{Rule}
use Rattle.sp_model.specs.declared.declaration.TableDecl.{TableDecl}
use Rattle.sp_model.specs.declared.outcome.Row.{Row}
use Rattle.sp_model.specs.declared.outcome.Row.TheVariants.{Whole, Broken}
use Rattle.sp_model.specs.declared.outcome.Walk.{Walk}
use Rattle.sp_model.specs.declared.outcome.Walk.TheVariants.{Going, Full, Failed, Waiting}
use Rattle.sp_model.specs.declared.outcome.WalkState.{WalkState}
use Rattle.sp_model.specs.declared.scan.Cause.TheVariants as causes
use Rattle.sp_model.specs.declared.scan.ScanRequest.{ScanRequest}
use Rattle.scan_laws.specs.Scans.{items_of}
use Rattle.scan_laws.specs.States.{Outer, Inner, FlightRow, Scan}
use Rattle.scan_laws.specs.Steps.{in_flight, past, ended_so, inner_accepted, inner_again, child_begun, outer_accepted, outer_again, finished}
use Rattle.scan_core.specs.Advances.{row_now, StandsBy, is_too_many, InnerStands, OuterStands, RowDecides, ItemFills, CallEnds, ListBegins, ParentsEnd, NothingIsLeft}
use Rattle.scan_core.specs.Laws.{CallIsOpen, IsOpenBy, StillScanIsOpen}
use Rattle.scan_core.specs.Next.{IsStill, outer_source}

-- ---- steps that there are

never : (rule : Rule) (attempt : ℕ) (e : Ending) → judged rule attempt (Some e) ≡ Open → ⊥
never rule attempt End is = cc
never rule attempt (Error text) is = by (is_ignored rule.ignore text) (is_retried rule.retry attempt text) is
  where
    by : (a b : Bool) → (if a then Accept else (if b then Again else Refuse text)) ≡ Open → ⊥
    by true b e = cc
    by false true e = cc
    by false false e = cc

stands_for : (st : Scan) (rows : List FlightRow) (w : Walk) → (w ≡ Waiting → ⊥) → (t : Scan) × StandsBy st rows w t
stands_for st rows (Going s) going = (past st rows s None, refl)
stands_for st rows (Full s) going = (past st rows s (Some (Full s)), refl)
stands_for st rows (Failed number column cause) going = (ended_so st (Failed number column cause), refl)
stands_for st rows Waiting going = absurd (going refl)

kept_goes : (rows : List (List Cell)) (s : WalkState) (b : Bool)
    → (if b then Full (record { rows = rows; items = suc s.items; steady = s.steady }) else Going (record { rows = rows; items = suc s.items; steady = s.steady })) ≡ Waiting → ⊥
kept_goes rows s true e = cc
kept_goes rows s false e = cc

met_goes : (limit : Option ℕ) (cells : List Cell) (s : WalkState) (b : Bool) → (if b then with_row_kept limit (s.rows ++ cells ∷ []) s else Going (record { rows = s.rows; items = suc s.items; steady = s.steady })) ≡ Waiting → ⊥
met_goes limit cells s true e = kept_goes (s.rows ++ cells ∷ []) s (is_reached limit (length (s.rows ++ cells ∷ []))) e
met_goes limit cells s false e = cc

row_goes : (conditions : List Condition) (columns : List ColumnDecl) (limit : Option ℕ) (seen : Row) (s : WalkState) → with_row conditions columns limit (Some seen) s ≡ Waiting → ⊥
row_goes conditions columns limit (Whole cells) s e = met_goes limit cells s (meets conditions columns cells) e
row_goes conditions columns limit (Broken column cause) s e = cc

inner_stands : (st : Scan) (i : Inner) (v : Verdict) (many : Bool) → (v ≡ Open → ⊥) → st.first ≡ [] → st.inside ≡ [] → (t : Scan) × InnerStands st i v many t
inner_stands st i Accept false closed first inside = (inner_accepted st, refl)
inner_stands st i Accept true closed first inside = (ended_so st (Failed (suc st.now.items) None (causes.TooMany i.source.function i.decided)), ((first, inside), refl))
inner_stands st i Again many closed first inside = (inner_again st i, ((first, inside), refl))
inner_stands st i (Refuse text) many closed first inside = (ended_so st (Failed (suc st.now.items) None (causes.Error i.source.function i.attempt text)), ((first, inside), refl))
inner_stands st i Open many closed first inside = absurd (closed refl)

outer_stands : (table : TableDecl) (st : Scan) (o : Outer) (v : Verdict) → (v ≡ Open → ⊥) → st.first ≡ [] → (t : Scan) × OuterStands (outer_source table) st o v t
outer_stands table st o Accept closed first = (outer_accepted st, refl)
outer_stands table st o Again closed first = (outer_again st o, (first, refl))
outer_stands table st o (Refuse text) closed first = (ended_so st (Failed (suc st.now.items) None (causes.Error (outer_source table).function o.attempt text)), (first, refl))
outer_stands table st o Open closed first = absurd (closed refl)

front_none : (xs ys : List Cell) → xs ++ ys ≡ [] → (xs ≡ []) × (ys ≡ [])
front_none [] ys e = (refl, e)
front_none (x ∷ xs) ys e = absurd (cc)

-- ---- the place

module _ (table : TableDecl) (request : ScanRequest) (window : ℕ) (st : Scan) (some : 1 ≤ window) (still : IsStill table request window st) where
  row_waits : (row : FlightRow) (rows : List FlightRow) → st.flight ≡ row ∷ rows → (o : Option Row) → row_now table request row ≡ o → row_now table request row ≡ None
  row_waits row rows is None e = e
  row_waits row rows is (Some seen) e =
      let s = stands_for st rows (with_row request.conditions (columns_named request.columns table.columns) request.limit (Some seen) st.now) (row_goes request.conditions (columns_named request.columns table.columns) request.limit seen st.now) in
      absurd (still s.0 (RowDecides (record { row = row; rows = rows; first = is; seen = seen; known = e; stands = s.1 })))

  none_waits : st.flight ≡ [] → (xs : List Cell) → st.waiting ≡ xs → st.waiting ≡ []
  none_waits is [] e = e
  none_waits is (x ∷ xs) e =
      let n : length st.flight ≡ 0 = ap length is in
      absurd (still (in_flight st x xs) (ItemFills (record { item = x; waiting = xs; first = e; room = omega (arith, n, some); stands = refl })))

  inner_waits : (i : Inner) → st.inner ≡ Some i → st.first ≡ [] → st.inside ≡ [] → (o : Option Ending) → i.ending ≡ o → i.ending ≡ None
  inner_waits i is first inside None e = e
  inner_waits i is first inside (Some ending) e =
      let s = inner_stands st i (judged i.source.rule i.attempt (Some ending)) (is_too_many i (length st.inside)) (never i.source.rule i.attempt ending) first inside in
      absurd (still s.0 (CallEnds (record { inner = i; ending = ending; is = is; came = e; stands = s.1 })))

  parents_wait : (o : Outer) → st.outer ≡ Some o → st.inner ≡ None → (xs : List Cell) → o.waiting ≡ xs → o.waiting ≡ []
  parents_wait o is closed [] e = e
  parents_wait o is closed (x ∷ xs) e = absurd (still (child_begun table request st o x xs) (ListBegins (record { outer = o; parent = x; parents = xs; is = is; closed = closed; first = e; stands = refl })))

  outer_waits : (o : Outer) → st.outer ≡ Some o → st.inner ≡ None → st.first ≡ [] → o.waiting ≡ [] → (x : Option Ending) → o.ending ≡ x → o.ending ≡ None
  outer_waits o is closed first walked None e = e
  outer_waits o is closed first walked (Some ending) e =
      let s = outer_stands table st o (judged (outer_source table).rule o.attempt (Some ending)) (never (outer_source table).rule o.attempt ending) first in
      absurd (still s.0 (ParentsEnd (record { outer = o; ending = ending; is = is; closed = closed; walked = walked; came = e; stands = s.1 })))

  call_open : st.first ≡ [] → st.inside ≡ [] → (outer : Option Outer) (inner : Option Inner) → st.outer ≡ outer → st.inner ≡ inner → CallIsOpen outer inner
  call_open first inside outer (Some i) o is = inner_waits i is first inside i.ending refl
  call_open first inside (Some o) None is closed =
      let walked : o.waiting ≡ [] = parents_wait o is closed o.waiting refl in
      (walked, outer_waits o is closed first walked o.ending refl)
  call_open first inside None None none closed = absurd (still (finished st) (NothingIsLeft (record { outer = none; inner = closed; decided = first; stands = refl })))

  open_by : st.first ++ st.inside ≡ items_of st.flight ++ st.waiting → (flight : List FlightRow) → st.flight ≡ flight → IsOpenBy table request st flight
  open_by split (row ∷ rows) is = row_waits row rows is (row_now table request row) refl
  open_by split [] is =
      let waiting : st.waiting ≡ [] = none_waits is st.waiting refl in
      let all : st.first ++ st.inside ≡ [] = split ∙ ap (λ f. items_of f ++ st.waiting) is ∙ waiting in
      let none = front_none st.first st.inside all in
      (none.0, none.1, waiting, call_open none.0 none.1 st.outer st.inner refl refl)

pub still_open : StillScanIsOpen
still_open table request window st some split still = open_by table request window st some still split st.flight refl
