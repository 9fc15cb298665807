-- What was fed so far, and what is left to feed.
use Rattle.std.proofs.Common.{◌≡◌, fold, drop}
use Rattle.std.specs.Hash as fed
use Rattle.std.specs.List.{flat_map}
use Rattle.source_scans.specs.Telling.{sent_writes}
use Rattle.source_scans.proofs.unit_scan.hash_conditions.Given as goal

abbrev pub invariant-loop-condition : goal.invariant-loop-condition
invariant-loop-condition g l =
    fold g.H.Hasher.write l.state (flat_map sent_writes (drop l.condition-index l.conditions)) ≡ fold g.H.Hasher.write l.fn.state (fed.slice sent_writes l.conditions)
