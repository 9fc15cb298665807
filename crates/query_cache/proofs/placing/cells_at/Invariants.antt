use Rattle.std.proofs.Common.{◌≡◌, map, take}
use Rattle.query_cache.specs.Places.{cell_at}
use Rattle.query_cache.proofs.placing.cells_at.Given as goal

abbrev pub invariant-loop-place : goal.invariant-loop-place
invariant-loop-place l = l.cells ≡ map (cell_at l.row) (take l.place-index l.places)
