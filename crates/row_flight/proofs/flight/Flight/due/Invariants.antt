use Rattle.std.proofs.Common.{◌≡◌, map, drop}
use Rattle.row_flight.specs.Dues.{sooner, soonest, key_due}
use Rattle.row_flight.proofs.flight.Flight.due.Given as goal

abbrev pub invariant-loop-place : goal.invariant-loop-place
invariant-loop-place l =
    sooner l.least (soonest (map (key_due l.self-inside.pool) (drop l.place l.self-inside.order.items))) ≡ soonest (map (key_due l.self-inside.pool) l.self-inside.order.items)
