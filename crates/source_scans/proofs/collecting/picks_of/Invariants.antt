-- The picks so far, among all scans that will be found, and those of the rows that are left.
use Rattle.std.proofs.Common.{◌≡◌, ◌++◌, map, drop}
use Rattle.std.specs.List.{flat_map}
use Rattle.source_scans.specs.Asking.{each_once, units_at, units_of, place_of}
use Rattle.source_scans.proofs.collecting.picks_of.Given as goal

abbrev pub invariant-loop-row : goal.invariant-loop-row
invariant-loop-row l = record {
  found : each_once l.found.keys (flat_map (units_at l.source) (drop l.row-index l.left)) ≡ units_of l.source l.left;
  picks : l.picks ++ map (λ row. map (place_of (units_of l.source l.left)) (units_at l.source row)) (drop l.row-index l.left)
      ≡ map (λ row. map (place_of (units_of l.source l.left)) (units_at l.source row)) l.left;
}
