use Rattle.std.proofs.Common.{◌≡◌, ◌≤◌, drop, length}
use Rattle.sp_model.specs.Conditions.{is_canonical}
use Rattle.sp_model.proofs.canonical.is_canonical.Given as goal

abbrev pub invariant-loop-index : goal.invariant-loop-index
invariant-loop-index l = record { within : l.index ≤ length l.conditions; rest : is_canonical (drop l.index l.conditions) ≡ is_canonical l.conditions }
