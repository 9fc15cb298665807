use Rattle.std.proofs.Common.{◌≡◌, drop, map}
use Rattle.sp_value.specs.declared.truth.Op.TheVariants as op
use Rattle.sp_value.specs.Truth.{truth}
use Rattle.row_algebra.specs.RowTruth.{any_of, either}
use Rattle.row_algebra.proofs.judging.in_truth.Given as goal

abbrev pub invariant-loop-member : goal.invariant-loop-member
invariant-loop-member l = any_of (map (truth op.Eq l.value) l.list) ≡ either l.found (any_of (map (truth op.Eq l.value) (drop l.member-index l.list)))
