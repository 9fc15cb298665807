-- The form of a scan's state stays with its steps.
use Rattle.std.proofs.Common.{◌≡◌, ◌≤◌, ◌<◌, ◌+◌, ℕ, suc, Bool, true, false, nat_lt, List, [], ◌∷◌, ◌++◌, length, Option, Some, None, if◌then◌else◌, refl, sym, ap, subst, ◌∙◌, arith}
use Rattle.sp_value.specs.declared.cell.Cell.{Cell}
use Rattle.sp_model.specs.Calls.{child_call}
use Rattle.sp_model.specs.RowOf.{with_cell, column_value, row_of, columns_named}
use Rattle.sp_model.specs.Sayable.{IsItem}
use Rattle.sp_model.specs.Settling.{attempts_of, Verdict, Accept, Again, Refuse, Open, judged}
use Rattle.sp_model.specs.Walk.{meets, is_reached, with_row, with_row_kept, Source, list_source}
use Rattle.sp_model.proofs.Lawful.{again_below}
use Rattle.sp_model.specs.declared.call.Ending.{Ending}
use Rattle.sp_model.specs.declared.call.Piece.{Piece}
use Rattle.sp_model.specs.declared.call.Piece.TheVariants as piece
use Rattle.sp_model.specs.declared.declaration.ColumnDecl.{ColumnDecl}
use Rattle.sp_model.specs.declared.declaration.TableDecl.{TableDecl}
use Rattle.sp_model.specs.declared.call.Condition.{Condition}
use Rattle.sp_model.specs.declared.outcome.Outcome.{Outcome}
use Rattle.sp_model.specs.declared.outcome.Outcome.TheVariants.{Gave, Fails}
use Rattle.sp_model.specs.declared.outcome.Row.{Row}
use Rattle.sp_model.specs.declared.outcome.Row.TheVariants.{Whole, Broken}
use Rattle.sp_model.specs.declared.outcome.Walk.{Walk}
use Rattle.sp_model.specs.declared.outcome.Walk.TheVariants.{Going, Full, Failed, Waiting}
use Rattle.sp_model.specs.declared.outcome.WalkState.{WalkState}
use Rattle.sp_model.specs.declared.scan.ScanRequest.{ScanRequest}
use Rattle.sp_world.specs.Pieces.{IsSoundPiece}
use Rattle.scan_laws.specs.Flights.{status}
use Rattle.scan_laws.specs.Rests.{entry_of}
use Rattle.scan_laws.specs.States.{Outer, Inner, FlightRow, Scan}
use Rattle.scan_laws.specs.Steps.{inner_listed, outer_listed, item_came, parent_came, inner_past, past, ended_so, inner_again, child_begun, outer_again, flown}
use Rattle.scan_core.specs.Advances.{StandsBy, InnerStands, OuterStands, Step, RowDecides, ItemFills, CallEnds, ListBegins, ParentsEnd, NothingIsLeft, Runs, Advances}
use Rattle.scan_core.specs.Calls.{items_source}
use Rattle.scan_core.specs.Hearing.{inner_heard, outer_heard}
use Rattle.scan_core.specs.Next.{outer_source}
use Rattle.one_scan.specs.Forms.{AreItems, AreWide, IsAskedBy, IsInnerForm, IsOuterForm, IsStateForm}

-- ---- rows that are as wide

cell_wide : (name : List ℕ) (o : Option Outcome) (r : Option Row) (cells : List Cell) (n : ℕ) → with_cell name o r ≡ Some (Whole cells) → ((xs : List Cell) → r ≡ Some (Whole xs) → length xs ≡ n) → length cells ≡ suc n
cell_wide name None r cells n e h = absurd (cc)
cell_wide name (Some (Fails cause)) r cells n e h = absurd (cc)
cell_wide name (Some (Gave x)) None cells n e h = absurd (cc)
cell_wide name (Some (Gave x)) (Some (Broken column cause)) cells n e h = absurd (cc)
cell_wide name (Some (Gave x)) (Some (Whole xs)) cells n e h = let s : x ∷ xs ≡ cells = cc in ap length (sym s) ∙ ap (λ k. suc k) (h xs refl)

pub row_wide : (gives : List ℕ → Option Outcome) (columns : List ColumnDecl) (item : Cell) (cells : List Cell) → row_of gives columns item ≡ Some (Whole cells) → length cells ≡ length columns
row_wide gives [] item cells e = let s : [] ≡ cells = cc in ap length (sym s)
row_wide gives (column ∷ columns) item cells e =
    cell_wide column.name (column_value gives item column) (row_of gives columns item) cells (length columns) e (λ xs h. row_wide gives columns item xs h)

wide_push : (n : ℕ) (rows : List (List Cell)) (row : List Cell) → AreWide n rows → length row ≡ n → AreWide n (rows ++ row ∷ [])
wide_push n [] row all one = (one, tt)
wide_push n (r ∷ rows) row all one = (all.0, wide_push n rows row all.1 one)

abbrev WideRow : ℕ → Row → Type 0
WideRow n (Whole cells) = length cells ≡ n
WideRow n (Broken column cause) = Unit {0}

abbrev WideWalk : ℕ → Walk → Type 0
WideWalk n (Going s) = AreWide n s.rows
WideWalk n (Full s) = AreWide n s.rows
WideWalk n (Failed row column cause) = Unit {0}
WideWalk n Waiting = Unit {0}

kept_wide : (n : ℕ) (rows : List (List Cell)) (s : WalkState) (b : Bool) → AreWide n rows
    → WideWalk n (if b then Full (record { rows = rows; items = suc s.items; steady = s.steady }) else Going (record { rows = rows; items = suc s.items; steady = s.steady }))
kept_wide n rows s true all = all
kept_wide n rows s false all = all

met_wide : (n : ℕ) (limit : Option ℕ) (cells : List Cell) (s : WalkState) (b : Bool) → length cells ≡ n → AreWide n s.rows
    → WideWalk n (if b then with_row_kept limit (s.rows ++ cells ∷ []) s else Going (record { rows = s.rows; items = suc s.items; steady = s.steady }))
met_wide n limit cells s true one all = kept_wide n (s.rows ++ cells ∷ []) s (is_reached limit (length (s.rows ++ cells ∷ []))) (wide_push n s.rows cells all one)
met_wide n limit cells s false one all = all

walk_wide : (n : ℕ) (conditions : List Condition) (columns : List ColumnDecl) (limit : Option ℕ) (seen : Row) (s : WalkState) → WideRow n seen → AreWide n s.rows → WideWalk n (with_row conditions columns limit (Some seen) s)
walk_wide n conditions columns limit (Whole cells) s one all = met_wide n limit cells s (meets conditions columns cells) one all
walk_wide n conditions columns limit (Broken column cause) s one all = tt

seen_wide : (n : ℕ) (gives : List ℕ → Option Outcome) (columns : List ColumnDecl) (item : Cell) (seen : Row) → length columns ≡ n → row_of gives columns item ≡ Some seen → WideRow n seen
seen_wide n gives columns item (Whole cells) e is = row_wide gives columns item cells is ∙ e
seen_wide n gives columns item (Broken column cause) e is = tt

entry_wide : (n : ℕ) (o : Option WalkState) (now : WalkState) → ((s : WalkState) → o ≡ Some s → AreWide n s.rows) → AreWide n now.rows → AreWide n (entry_of o now).rows
entry_wide n None now h all = all
entry_wide n (Some s) now h all = h s refl

items_push : (xs : List Cell) (x : Cell) → AreItems xs → IsItem x → AreItems (xs ++ x ∷ [])
items_push [] x all one = (one, tt)
items_push (y ∷ ys) x all one = (all.0, items_push ys x all.1 one)

-- ---- steps

module _ (table : TableDecl) (request : ScanRequest) where
  abbrev width : ℕ
  width = length request.columns

  past_inner : (o : Option Inner) (first : List Cell) (now : WalkState) → AreWide width now.rows → ((i : Inner) → o ≡ Some i → IsInnerForm table request i) → (i : Inner) → inner_past o first now ≡ Some i → IsInnerForm table request i
  past_inner o (x ∷ xs) now all f i e = f i e
  past_inner None [] now all f i e = absurd (cc)
  past_inner (Some j) [] now all f i e =
      let g = f j refl in
      let s : record j { entered = Some (entry_of j.entered now); decided = suc j.decided } ≡ i = cc in
      subst (λ (z : Inner). IsInnerForm table request z) s (record {
        source = g.source;
        first = g.first;
        last = g.last;
        asked = g.asked;
        entered = λ u e2. let v : entry_of j.entered now ≡ u = cc in subst (λ (z : WalkState). AreWide width z.rows) v (entry_wide width j.entered now g.entered all);
      })

  past_form : (st : Scan) (rows : List FlightRow) (s : WalkState) (end : Option Walk) → AreWide width s.rows → IsStateForm table request st → IsStateForm table request (past st rows s end)
  past_form st rows s end all f = record { inner = past_inner st.inner st.first st.now f.rows f.inner; outer = f.outer; items = f.items; rows = all }

  ended_form : (st : Scan) (w : Walk) → IsStateForm table request st → IsStateForm table request (ended_so st w)
  ended_form st w f = record { inner = f.inner; outer = f.outer; items = f.items; rows = f.rows }

  at : (st t : Scan) → t ≡ st → IsStateForm table request st → IsStateForm table request t
  at st t e f = subst (λ (z : Scan). IsStateForm table request z) (sym e) f

  decided_form : (st t : Scan) (rows : List FlightRow) (w : Walk) → StandsBy st rows w t → WideWalk width w → IsStateForm table request st → IsStateForm table request t
  decided_form st t rows (Going s) so all f = at (past st rows s None) t so (past_form st rows s None all f)
  decided_form st t rows (Full s) so all f = at (past st rows s (Some (Full s))) t so (past_form st rows s (Some (Full s)) all f)
  decided_form st t rows (Failed number column cause) so all f = at (ended_so st (Failed number column cause)) t so (ended_form st (Failed number column cause) f)
  decided_form st t rows Waiting so all f = absurd so

  again_form : (st : Scan) (i : Inner) (e : Ending) → st.inner ≡ Some i → judged i.source.rule i.attempt (Some e) ≡ Again → IsStateForm table request st → IsStateForm table request (inner_again st i)
  again_form st i e is again f =
      let g = f.inner i is in
      let below : i.attempt < attempts_of i.source.rule.retry = again_below i.source.rule i.attempt e again in
      record {
        inner = λ j w.
            let s : record i { attempt = suc i.attempt; listed = false; entered = None; decided = 0; ending = None } ≡ j = cc in
            subst (λ (z : Inner). IsInnerForm table request z) s (record { source = g.source; first = omega arith; last = omega (arith, below); asked = g.asked; entered = λ u none. absurd (cc) });
        outer = f.outer;
        items = f.items;
        rows = entry_wide width i.entered st.now g.entered f.rows;
      }

  accepted_form : (st : Scan) → IsStateForm table request st → IsStateForm table request (record st { inner = None; first = st.first ++ st.inside; inside = [] })
  accepted_form st f = record { inner = λ j none. absurd (cc); outer = f.outer; items = f.items; rows = f.rows }

  inner_form : (st t : Scan) (i : Inner) (e : Ending) (v : Verdict) (many : Bool) → st.inner ≡ Some i → judged i.source.rule i.attempt (Some e) ≡ v → InnerStands st i v many t → IsStateForm table request st → IsStateForm table request t
  inner_form st t i e Accept false is v so f = at _ t so (accepted_form st f)
  inner_form st t i e Accept true is v so f = at _ t so.1 (ended_form st _ f)
  inner_form st t i e Again many is v so f = at (inner_again st i) t so.1 (again_form st i e is v f)
  inner_form st t i e (Refuse text) many is v so f = at _ t so.1 (ended_form st _ f)
  inner_form st t i e Open many is v so f = absurd so

  -- the attempts that a list has at least
  child_form : 1 ≤ attempts_of (items_source request.access table).rule.retry → (st : Scan) (o : Outer) (parent : Cell) (parents : List Cell) → st.outer ≡ Some o → o.waiting ≡ parent ∷ parents → IsStateForm table request st
      → IsStateForm table request (child_begun table request st o parent parents)
  child_form some st o parent parents is first f =
      let g = f.outer o is in
      let all : AreItems (parent ∷ parents) = subst AreItems first g.items in
      let source : list_source table table.list ≡ items_source request.access table = sym (ap (λ a. items_source a table) g.access) in
      record {
        inner = λ i w.
            let s : record { asked = child_call table request parent; source = list_source table table.list; attempt = 1; listed = false; entered = None; decided = 0; ending = None } ≡ i = cc in
            subst (λ (z : Inner). IsInnerForm table request z) s (record {
              source = source;
              first = omega arith;
              last = subst (λ (z : Source). 1 ≤ attempts_of z.rule.retry) (sym source) some;
              asked = subst (λ a. IsAskedBy a table request (child_call table request parent)) (sym g.access) (parent, all.0, refl);
              entered = λ u none. absurd (cc);
            });
        outer = λ p w.
            let s : record o { walked = suc o.walked; waiting = parents } ≡ p = cc in
            subst (λ (z : Outer). IsOuterForm table request z) s (record { access = g.access; first = g.first; last = g.last; items = all.1 });
        items = f.items;
        rows = f.rows;
      }

  outer_again_form : (st : Scan) (o : Outer) (e : Ending) → st.outer ≡ Some o → judged (outer_source table).rule o.attempt (Some e) ≡ Again → IsStateForm table request st → IsStateForm table request (outer_again st o)
  outer_again_form st o e is again f =
      let g = f.outer o is in
      let below : o.attempt < attempts_of (outer_source table).rule.retry = again_below (outer_source table).rule o.attempt e again in
      record {
        inner = f.inner;
        outer = λ p w.
            let s : record { attempt = suc o.attempt; listed = false; walked = 0; waiting = []; ending = None } ≡ p = cc in
            subst (λ (z : Outer). IsOuterForm table request z) s (record { access = g.access; first = omega arith; last = omega (arith, below); items = tt });
        items = f.items;
        rows = tt;
      }

  outer_form : (st t : Scan) (o : Outer) (e : Ending) (v : Verdict) → st.outer ≡ Some o → judged (outer_source table).rule o.attempt (Some e) ≡ v → OuterStands (outer_source table) st o v t → IsStateForm table request st → IsStateForm table request t
  outer_form st t o e Accept is v so f = at (record st { outer = None }) t so (record { inner = f.inner; outer = λ p none. absurd (cc); items = f.items; rows = f.rows })
  outer_form st t o e Again is v so f = at (outer_again st o) t so.1 (outer_again_form st o e is v f)
  outer_form st t o e (Refuse text) is v so f = at _ t so.1 (ended_form st _ f)
  outer_form st t o e Open is v so f = absurd so

  module _ (some : 1 ≤ attempts_of (items_source request.access table).rule.retry) (wide : length (columns_named request.columns table.columns) ≡ length request.columns) (window : ℕ) where
    pub step_form : (st t : Scan) → Step table request window st t → IsStateForm table request st → IsStateForm table request t
    step_form st t (RowDecides d) f =
        decided_form st t d.rows _ d.stands
        (walk_wide width request.conditions (columns_named request.columns table.columns) request.limit d.seen st.now (seen_wide width (status table d.row) (columns_named request.columns table.columns) d.row.item d.seen wide d.known) f.rows) f
    step_form st t (ItemFills d) f =
        let all : AreItems (d.item ∷ d.waiting) = subst AreItems d.first f.items in
        at _ t d.stands (record { inner = f.inner; outer = f.outer; items = all.1; rows = f.rows })
    step_form st t (CallEnds e) f = inner_form st t e.inner e.ending _ _ e.is refl e.stands f
    step_form st t (ListBegins b) f = at _ t b.stands (child_form some st b.outer b.parent b.parents b.is b.first f)
    step_form st t (ParentsEnd e) f = outer_form st t e.outer e.ending _ e.is refl e.stands f
    step_form st t (NothingIsLeft b) f = at _ t b.stands (ended_form st (Going st.now) f)

    runs_form : (us : List Scan) (st t : Scan) → Runs table request window us st t → IsStateForm table request st → IsStateForm table request t
    runs_form [] st t r f = at st t r f
    runs_form (u ∷ us) st t r f = runs_form us u t r.2 (step_form st u r.1 f)

    pub advances_form : (st t : Scan) → Advances table request window st t → IsStateForm table request st → IsStateForm table request t
    advances_form st t a f = runs_form a.through st t a.runs f

  -- ---- calls are listed, pieces come

  pub listed_form : (st : Scan) (i : Inner) → st.inner ≡ Some i → IsStateForm table request st → IsStateForm table request (inner_listed st i)
  listed_form st i is f =
      let g = f.inner i is in
      record {
        inner = λ j w. let s : record i { listed = true } ≡ j = cc in subst (λ (z : Inner). IsInnerForm table request z) s (record { source = g.source; first = g.first; last = g.last; asked = g.asked; entered = g.entered });
        outer = f.outer;
        items = f.items;
        rows = f.rows;
      }

  pub outer_listed_form : (st : Scan) (o : Outer) → st.outer ≡ Some o → IsStateForm table request st → IsStateForm table request (outer_listed st o)
  outer_listed_form st o is f =
      let g = f.outer o is in
      record {
        inner = f.inner;
        outer = λ p w. let s : record o { listed = true } ≡ p = cc in subst (λ (z : Outer). IsOuterForm table request z) s (record { access = g.access; first = g.first; last = g.last; items = g.items });
        items = f.items;
        rows = f.rows;
      }

  pub flown_form : (st : Scan) (flight : List FlightRow) → IsStateForm table request st → IsStateForm table request (flown st flight)
  flown_form st flight f = record { inner = f.inner; outer = f.outer; items = f.items; rows = f.rows }

  item_form : (st : Scan) (x : Cell) (b : Bool) → IsItem x → IsStateForm table request st → IsStateForm table request (if b then st else item_came st x)
  item_form st x true one f = f
  item_form st x false one f = record { inner = f.inner; outer = f.outer; items = items_push st.waiting x f.items one; rows = f.rows }

  pub heard_form : (st : Scan) (i : Inner) (p : Piece) → st.inner ≡ Some i → IsSoundPiece p → IsStateForm table request st → IsStateForm table request (inner_heard st i p)
  heard_form st i (piece.Item place x) is sound f = item_form st x (nat_lt place (i.decided + length st.inside)) sound.0 f
  heard_form st i (piece.Ending count e) is sound f =
      let g = f.inner i is in
      record {
        inner = λ j w. let s : record i { ending = Some e } ≡ j = cc in subst (λ (z : Inner). IsInnerForm table request z) s (record { source = g.source; first = g.first; last = g.last; asked = g.asked; entered = g.entered });
        outer = f.outer;
        items = f.items;
        rows = f.rows;
      }

  parent_form : (st : Scan) (o : Outer) (x : Cell) (b : Bool) → st.outer ≡ Some o → IsItem x → IsStateForm table request st → IsStateForm table request (if b then st else parent_came st o x)
  parent_form st o x true is one f = f
  parent_form st o x false is one f =
      let g = f.outer o is in
      record {
        inner = f.inner;
        outer = λ p w.
            let s : record o { waiting = o.waiting ++ x ∷ [] } ≡ p = cc in
            subst (λ (z : Outer). IsOuterForm table request z) s (record { access = g.access; first = g.first; last = g.last; items = items_push o.waiting x g.items one });
        items = f.items;
        rows = f.rows;
      }

  pub outer_heard_form : (st : Scan) (o : Outer) (p : Piece) → st.outer ≡ Some o → IsSoundPiece p → IsStateForm table request st → IsStateForm table request (outer_heard st o p)
  outer_heard_form st o (piece.Item place x) is sound f = parent_form st o x (nat_lt place (o.walked + length o.waiting)) is sound.0 f
  outer_heard_form st o (piece.Ending count e) is sound f =
      let g = f.outer o is in
      record {
        inner = f.inner;
        outer = λ p w. let s : record o { ending = Some e } ≡ p = cc in subst (λ (z : Outer). IsOuterForm table request z) s (record { access = g.access; first = g.first; last = g.last; items = g.items });
        items = f.items;
        rows = f.rows;
      }
