-- The first row in flight.
use Rattle.std.proofs.Common.{◌≡◌, ℕ, List, [], ◌∷◌, Some, refl, sym, ap, subst, ◌∙◌}
use Rattle.std.specs.Prelude.{slice_get}
use Rattle.sp_model.specs.Hydration.{hydrated_by}
use Rattle.sp_model.specs.RowOf.{columns_named, row_of}
use Rattle.sp_model.specs.declared.declaration.TableDecl.{TableDecl}
use Rattle.sp_model.specs.declared.scan.ScanRequest.{ScanRequest}
use Rattle.hydrate_graph.specs.Following.{by_known}
use Rattle.hydrate_graph.specs.Graphs.{Plan, known}
use Rattle.row_pool.specs.Pools.{Pool, shown}
use Rattle.row_pool.specs.declared.key.Key.{Key}
use Rattle.row_flight.specs.Flying.{Seated, IsOf, FirstStands}
use Rattle.row_flight.specs.Pooled.{with_row, seated, IsFlight}
use Rattle.row_flight.specs.declared.frame.CallFrame.{CallFrame}
use Rattle.row_flight.specs.declared.row.RowCalls.{RowCalls}

seated_first : (p : Pool RowCalls) (keys : List Key) (key : Key) (row : RowCalls) → slice_get keys 0 ≡ Some key → shown p key ≡ Some row → (rows : List Seated) × (seated p keys ≡ record { key = key; row = row } ∷ rows)
seated_first p [] key row at is = absurd (cc)
seated_first p (k ∷ keys) key row at is =
    let same : k ≡ key = cc in
    (seated p keys, ap (λ z. with_row z (shown p z) (seated p keys)) same ∙ ap (λ o. with_row key o (seated p keys)) is)

-- it stands as its graph does
pub first_stands : (plan : Plan) (frame : CallFrame) (window number : ℕ) (p : Pool RowCalls) (keys : List Key) → IsFlight plan window number p keys → (key : Key) (row : RowCalls) → slice_get keys 0 ≡ Some key → shown p key ≡ Some row
    → (table : TableDecl) (request : ScanRequest) → IsOf table request (record { plan = plan; frame = frame; window = window; rows = seated p keys }) → FirstStands table request (seated p keys) (Some row.graph)
first_stands plan frame window number p keys f key row at is table request of =
    let rows = seated_first p keys key row at is in
    let plan_is : row.graph.plan ≡ plan = (f.rows key row is).0 in
    let functions : row.graph.plan.functions ≡ table.functions = ap (λ q. q.functions) plan_is ∙ of.functions in
    let columns : row.graph.plan.columns ≡ columns_named request.columns table.columns = ap (λ q. q.columns) plan_is ∙ of.columns in
    subst (λ rs. FirstStands table request rs (Some row.graph)) (sym rows.1) (
      ap (λ fs. row_of (hydrated_by fs (by_known (known row.graph))) (columns_named request.columns table.columns) row.graph.item) (sym functions)
          ∙ ap (λ cs. row_of (hydrated_by row.graph.plan.functions (by_known (known row.graph))) cs row.graph.item) (sym columns),
      columns,
      refl,
    )
