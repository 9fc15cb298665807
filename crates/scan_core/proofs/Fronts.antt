-- The first of the undecided items, and how many there are.
use Rattle.std.proofs.Common.{◌≡◌, ℕ, zero, suc, ◌+◌, ◌<◌, true, false, List, [], ◌∷◌, ◌++◌, length, take, drop, Option, Some, None, refl, sym, ap, subst, ◌∙◌, arith}
use Rattle.std.specs.Option.{is_some}
use Rattle.std.proofs.lemmas.List.{length-map, length-append}
use Rattle.sp_value.specs.declared.cell.Cell.{Cell}
use Rattle.sp_model.specs.declared.declaration.TableDecl.{TableDecl}
use Rattle.sp_model.specs.declared.declaration.ColumnDecl.{ColumnDecl}
use Rattle.sp_model.specs.declared.outcome.Row.{Row}
use Rattle.sp_model.specs.declared.outcome.Row.TheVariants.{Broken}
use Rattle.sp_model.specs.declared.scan.Cause.{Cause}
use Rattle.std.specs.List.{slice_get}
use Rattle.sp_model.specs.declared.scan.ScanRequest.{ScanRequest}
use Rattle.hydrate_graph.specs.Ends.{IsEndOf}
use Rattle.hydrate_graph.specs.Graphs.{Graph, row_so_far}
use Rattle.hydrate_graph.specs.declared.ends.RowEnd.{RowEnd}
use Rattle.hydrate_graph.specs.declared.ends.RowEnd.TheVariants.{Whole, Fails}
use Rattle.row_flight.specs.Flying.{InFlight, rows_of, rows_in, first_graph, Seated, FirstStands}
use Rattle.row_flight.specs.Rows.{flight_row}
use Rattle.scan_laws.specs.Scans.{items_of}
use Rattle.scan_laws.specs.States.{FlightRow, Scan}
use Rattle.scan_core.specs.Advances.{row_now}
use Rattle.scan_core.specs.Next.{FirstIsDecided, HasItem}

-- ---- of a flight

front_in : (rows : List Seated) (g : Graph) → first_graph rows ≡ Some g → (row : FlightRow) × (rest : List FlightRow) × (rows_in rows ≡ row ∷ rest)
front_in [] g e = absurd (cc)
front_in (s ∷ ss) g e = (flight_row s.row, rows_in ss, refl)

pub rows_length : (f : InFlight) → length (rows_of f) ≡ length f.rows
rows_length f = length-map f.rows (λ s. flight_row s.row)

-- the row of the first graph, as far as its functions are known
first_in : (table : TableDecl) (request : ScanRequest) (all : List Seated) (g : Graph) (row : FlightRow) (rows : List FlightRow) → FirstStands table request all (Some g) → rows_in all ≡ row ∷ rows → row_so_far g ≡ row_now table request row
first_in table request [] g row rows stands is = absurd stands
first_in table request (s ∷ ss) g row rows stands is =
    let same : flight_row s.row ≡ row = cc in
    sym stands.0 ∙ ap (row_now table request) same

pub first_row : (table : TableDecl) (request : ScanRequest) (f : InFlight) (g : Graph) (row : FlightRow) (rows : List FlightRow) → FirstStands table request f.rows (Some g) → rows_of f ≡ row ∷ rows → row_so_far g ≡ row_now table request row
first_row table request f g row rows stands is = first_in table request f.rows g row rows stands is

-- ---- the first row

seen_of : (columns : List ColumnDecl) (row : Option Row) (end : Option RowEnd) → IsEndOf columns row end → is_some end ≡ true → (r : Row) × (row ≡ Some r)
seen_of columns row None e s = absurd (cc)
seen_of columns row (Some Whole) e s = (_, e.1)
seen_of columns row (Some (Fails number)) e s = (_, e.1.2)

pub first_decided : (table : TableDecl) (request : ScanRequest) (st : Scan) (f : InFlight) (g : Graph) (end : Option RowEnd) → st.flight ≡ rows_of f → first_graph f.rows ≡ Some g
    → FirstStands table request f.rows (Some g) → IsEndOf g.plan.columns (row_so_far g) end → is_some end ≡ true
    → FirstIsDecided table request st
first_decided table request st f g end flight first stands ends some =
    let front = front_in f.rows g first in
    let seen = seen_of g.plan.columns (row_so_far g) end ends some in
    record { row = front.0; rows = front.1; first = flight ∙ front.2; seen = seen.0; known = sym (first_row table request f g front.0 front.1 stands front.2) ∙ seen.1 }

-- of a row in flight that waits nothing is seen
pub first_waits : (table : TableDecl) (request : ScanRequest) (st : Scan) (f : InFlight) (g : Graph) (end : Option RowEnd) → st.flight ≡ rows_of f → first_graph f.rows ≡ Some g
    → FirstStands table request f.rows (Some g) → IsEndOf g.plan.columns (row_so_far g) end → is_some end ≡ false → FirstIsDecided table request st → ⊥
first_waits table request st f g None flight first stands ends none d =
    let x : Some d.seen ≡ None = sym d.known ∙ sym (first_row table request f g d.row d.rows stands (sym flight ∙ d.first)) ∙ ends in
    cc
first_waits table request st f g (Some end) flight first stands ends none d = absurd (cc)

-- and without a row, too
pub no_first : (table : TableDecl) (request : ScanRequest) (st : Scan) (f : InFlight) → st.flight ≡ rows_of f → first_graph f.rows ≡ None → FirstIsDecided table request st → ⊥
no_first table request st f flight none d = none_in f.rows none (sym flight ∙ d.first) where
  none_in : (rows : List Seated) → first_graph rows ≡ None → rows_in rows ≡ d.row ∷ d.rows → ⊥
  none_in [] e is = cc
  none_in (s ∷ ss) e is = cc

-- ---- lists of items

pub items_length : (rows : List FlightRow) → length (items_of rows) ≡ length rows
items_length [] = refl
items_length (row ∷ rows) = ap suc (items_length rows)

pub undecided_length : (f : InFlight) (waiting : List Cell) → length (items_of (rows_of f) ++ waiting) ≡ length f.rows + length waiting
undecided_length f waiting = length-append (items_of (rows_of f)) waiting ∙ ap (λ n. n + length waiting) (items_length (rows_of f) ∙ rows_length f)

pub some_first : (xs : List Cell) → 0 < length xs → (x : Cell) × (ys : List Cell) × (xs ≡ x ∷ ys)
some_first [] lt = absurd (omega arith)
some_first (x ∷ xs) lt = (x, xs, refl)

pub all_decided : (n : ℕ) (xs : List Cell) → length xs ≡ 0 → (take n xs ≡ []) × (drop n xs ≡ [])
all_decided zero [] e = (refl, refl)
all_decided (suc n) [] e = (refl, refl)
all_decided n (x ∷ xs) e = absurd (omega arith)

pub has_item : (window : ℕ) (st : Scan) → 0 < length st.waiting → length st.flight < window → HasItem window st
has_item window st some room =
    let first = some_first st.waiting some in
    record { item = first.0; waiting = first.1; first = first.2; room = room }

-- ---- a row that fails

pub fails_at : (columns : List ColumnDecl) (row : Option Row) (e : RowEnd) (n : ℕ) → IsEndOf columns row (Some e) → e ≡ Fails n → (why : Cause) × (column : ColumnDecl) × (slice_get columns n ≡ Some column) × (row ≡ Some (Broken column.name why))
fails_at columns row e n ends is = let f = subst (λ (x : RowEnd). IsEndOf columns row (Some x)) is ends in (f.0, f.1.0, f.1.1, f.1.2)
