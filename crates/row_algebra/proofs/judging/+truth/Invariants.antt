use Rattle.std.proofs.Common.{◌≡◌, drop, map}
use Rattle.row_algebra.specs.RowTruth.{all_of, any_of, both, either, truth_of}
use Rattle.row_algebra.proofs.judging.+truth.Given as goal

abbrev pub invariant-all_of-loop-member : goal.invariant-all_of-loop-member
invariant-all_of-loop-member l = all_of (map (truth_of l.row) l.members) ≡ both l.found (all_of (map (truth_of l.row) (drop l.member-index l.members)))

abbrev pub invariant-any_of-loop-member : goal.invariant-any_of-loop-member
invariant-any_of-loop-member l = any_of (map (truth_of l.row) l.members) ≡ either l.found (any_of (map (truth_of l.row) (drop l.member-index l.members)))
