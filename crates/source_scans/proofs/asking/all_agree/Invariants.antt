-- All agree where those that are left do.
use Rattle.std.proofs.Common.{◌≡◌, length}
use Rattle.sp_model.specs.Units.{all_agree}
use Rattle.source_scans.proofs.asking.all_agree.Given as goal

abbrev pub invariant-loop-rest : goal.invariant-loop-rest
invariant-loop-rest l = all_agree l.rest ≡ all_agree l.conditions

abbrev pub decreases-loop-rest : goal.decreases-loop-rest
decreases-loop-rest l = length l.rest
