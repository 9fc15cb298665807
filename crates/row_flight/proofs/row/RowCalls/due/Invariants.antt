use Rattle.std.proofs.Common.{◌≡◌, map, drop}
use Rattle.hydrate_graph.specs.Graphs.{ready_of}
use Rattle.row_flight.specs.Dues.{sooner, soonest, tick_of}
use Rattle.row_flight.proofs.row.RowCalls.due.Given as goal

abbrev pub invariant-loop-function : goal.invariant-loop-function
invariant-loop-function l = record {
  items : l.function-items ≡ ready_of l.self.graph;
  least : sooner l.least (soonest (map (tick_of l.self) (drop l.function-index l.function-items))) ≡ soonest (map (tick_of l.self) l.function-items);
}
