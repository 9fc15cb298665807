-- A scan goes on waiting for its first undecided place as its calls are listed.
use Rattle.std.proofs.Common.{◌≡◌, ℕ, Bool, true, List, [], ◌∷◌, Option, Some, None, refl, sym, ap, subst, ◌∙◌}
use Rattle.sp_value.specs.declared.cell.Cell.{Cell}
use Rattle.sp_model.specs.Hydration.{hydrated_by}
use Rattle.sp_model.specs.RowOf.{columns_named, row_of}
use Rattle.sp_model.specs.declared.declaration.FunctionDecl.{FunctionDecl}
use Rattle.sp_model.specs.declared.declaration.TableDecl.{TableDecl}
use Rattle.sp_model.specs.declared.outcome.Row.{Row}
use Rattle.sp_model.specs.declared.scan.Access.{Access}
use Rattle.sp_model.specs.declared.scan.Access.TheVariants.{Get, List as OfList, Parents}
use Rattle.sp_model.specs.declared.scan.ScanRequest.{ScanRequest}
use Rattle.hydrate_graph.specs.Graphs.{Graph, known}
use Rattle.row_flight.specs.Flying.{Seated, rows_in}
use Rattle.row_flight.specs.Jobs.{DifferInListed}
use Rattle.scan_laws.specs.States.{Outer, Inner, FlightRow, Scan}
use Rattle.scan_laws.specs.Steps.{begin_by, inner_listed, outer_listed, flown}
use Rattle.scan_core.specs.Laws.{CallIsOpen, IsOpenBy, IsOpen}

module _ (table : TableDecl) (request : ScanRequest) where
  pub inner_waits : (st : Scan) (i : Inner) → st.inner ≡ Some i → IsOpen table request st → IsOpen table request (inner_listed st i)
  inner_waits st i is = by st.flight
    where
      by : (rows : List FlightRow) → IsOpenBy table request st rows → IsOpenBy table request (inner_listed st i) rows
      by (row ∷ rows) w = w
      by [] w = (w.0, w.1, w.2, subst (λ (z : Option Inner). CallIsOpen st.outer z) is w.3)

  pub outer_waits : (st : Scan) (o : Outer) → st.outer ≡ Some o → st.inner ≡ None → IsOpen table request st → IsOpen table request (outer_listed st o)
  outer_waits st o is closed = by st.flight
    where
      by : (rows : List FlightRow) → IsOpenBy table request st rows → IsOpenBy table request (outer_listed st o) rows
      by (row ∷ rows) w = w
      by [] w =
          let both : CallIsOpen (Some o) None = subst (λ (z : Option Inner). CallIsOpen (Some o) z) closed (subst (λ (z : Option Outer). CallIsOpen z st.inner) is w.3) in
          (w.0, w.1, w.2, subst (λ (z : Option Inner). CallIsOpen (Some (record o { listed = true })) z) (sym closed) both)

  -- the row of a graph, as far as its functions are known
  abbrev graph_now : Graph → Option Row
  graph_now g = row_of (λ name. hydrated_by table.functions (λ (f : FunctionDecl). λ (results : List (List ℕ × Cell)). known g f.name) name) (columns_named request.columns table.columns) g.item

  flown_by : (st : Scan) (xs ys : List Seated) → DifferInListed xs ys → IsOpenBy table request st (rows_in xs) → IsOpenBy table request (flown st (rows_in ys)) (rows_in ys)
  flown_by st [] [] d w = w
  flown_by st [] (y ∷ ys) d w = absurd d
  flown_by st (x ∷ xs) [] d w = absurd d
  flown_by st (x ∷ xs) (y ∷ ys) d w = ap graph_now d.1.graph ∙ w

  pub flown_waits : (st : Scan) (xs ys : List Seated) → st.flight ≡ rows_in xs → DifferInListed xs ys → IsOpen table request st → IsOpen table request (flown st (rows_in ys))
  flown_waits st xs ys is d w = flown_by st xs ys d (subst (λ (rows : List FlightRow). IsOpenBy table request st rows) is w)

  pub begun_waits : (access : Access) → IsOpen table request (begin_by access table request)
  begun_waits Get = (refl, refl, refl, refl)
  begun_waits OfList = (refl, refl, refl, refl)
  begun_waits Parents = (refl, refl, refl, (refl, refl))
