-- The lists are the same where what is left of them is.
use Rattle.std.proofs.Common.{◌≡◌, drop}
use Rattle.std.specs.Cmp.Lexicographic.{pointwise}
use Rattle.source_scans.specs.Telling.{same_sent}
use Rattle.source_scans.proofs.unit_scan.same_conditions.Given as goal

abbrev pub invariant-loop-condition : goal.invariant-loop-condition
invariant-loop-condition l = pointwise same_sent (drop l.condition-index l.left) l.others ≡ pointwise same_sent l.left l.right
