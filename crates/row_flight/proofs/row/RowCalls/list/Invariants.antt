use Rattle.std.proofs.Common.{◌≡◌, ◌<◌, ℕ, true, Some}
use Rattle.std.specs.Prelude.{slice_get}
use Rattle.hydrate_graph.specs.Graphs.{ready_of}
use Rattle.row_flight.specs.Flying.{key_at}
use Rattle.row_flight.specs.Jobs.{RowLists}
use Rattle.row_flight.specs.Rows.{attempt_of}
use Rattle.row_flight.proofs.row.RowCalls.list.Given as goal

abbrev pub invariant-loop-function : goal.invariant-loop-function
invariant-loop-function l = record {
  lists : RowLists l.frame l.seat.scan (key_at l.seat) l.fn.self l.self l.fn.into l.into;
  items : l.function-items ≡ ready_of l.fn.self.graph;
  done : (place k : ℕ) → place < l.function-index → slice_get l.function-items place ≡ Some k → (attempt_of l.self k).listed ≡ true;
}
