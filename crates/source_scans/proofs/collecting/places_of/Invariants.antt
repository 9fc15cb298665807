-- The places so far, among all scans that will be found, and those of the scans that are left.
use Rattle.std.proofs.Common.{◌≡◌, ◌++◌, map, drop}
use Rattle.source_scans.specs.Asking.{each_once, place_of}
use Rattle.source_scans.proofs.collecting.places_of.Given as goal

abbrev pub invariant-loop-unit : goal.invariant-loop-unit
invariant-loop-unit l = record {
  found : each_once l.found.keys (drop l.unit-index l.units) ≡ each_once l.fn.found.keys l.units;
  places : l.places ++ map (place_of (each_once l.fn.found.keys l.units)) (drop l.unit-index l.units) ≡ map (place_of (each_once l.fn.found.keys l.units)) l.units;
}
