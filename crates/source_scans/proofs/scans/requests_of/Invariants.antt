-- The requests so far, and those of the scans that are left.
use Rattle.std.proofs.Common.{◌≡◌, ◌++◌, map, drop}
use Rattle.source_scans.specs.Asking.{request_of}
use Rattle.source_scans.proofs.scans.requests_of.Given as goal

abbrev pub invariant-loop-unit : goal.invariant-loop-unit
invariant-loop-unit l = l.requests ++ map (request_of l.source) (drop l.unit-index l.units) ≡ map (request_of l.source) l.units
