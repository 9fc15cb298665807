use Rattle.std.proofs.Common.{ℕ}
use Rattle.hydrate_graph.specs.Graphs.{Plan}
use Rattle.row_flight.specs.Jobs.{PoolLists, RowsListed}
use Rattle.row_flight.specs.Pooled.{RowsShown, IsFlight}
use Rattle.row_flight.proofs.flight.list_all.Given as goal

abbrev pub invariant-loop-place : goal.invariant-loop-place
invariant-loop-place l = record {
  shows : RowsShown l.pool l.order.items;
  lists : (plan : Plan) (window number : ℕ) → IsFlight plan window number l.fn.pool l.order.items → PoolLists plan l.frame window number l.scan l.order.items l.fn.pool l.pool l.fn.into l.into;
  done : RowsListed l.pool l.order.items l.place;
}
