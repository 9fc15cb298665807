use Rattle.std.proofs.Common.{◌≡◌, ◌++◌, map, filter, drop}
use Rattle.sp_model.specs.Covers.{cut}
use Rattle.query_cache.specs.Places.{cells_at, are_true_at}
use Rattle.query_cache.proofs.serving.shown_rows.Given as goal

abbrev pub invariant-loop-row : goal.invariant-loop-row
invariant-loop-row l = record {
  rest : l.shown ++ map (cells_at l.places) (filter (are_true_at l.conditions) (drop l.row-index l.rows)) ≡ map (cells_at l.places) (filter (are_true_at l.conditions) l.rows);
  within : cut l.limit l.shown ≡ l.shown;
}
