-- The scans so far, and those of the connections that are left.
use Rattle.std.proofs.Common.{◌≡◌, ◌++◌, drop}
use Rattle.std.specs.List.{flat_map}
use Rattle.source_scans.specs.Collecting.{scans_at}
use Rattle.source_scans.proofs.asking.all_scans.Given as goal

abbrev pub invariant-loop-connection : goal.invariant-loop-connection
invariant-loop-connection l =
    l.units ++ flat_map (scans_at l.source l.left) (drop l.connection-index l.source.connections) ≡ flat_map (scans_at l.source l.left) l.source.connections
