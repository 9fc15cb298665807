-- How walks go on.
use Rattle.std.proofs.Common.{◌≡◌, refl}
use Rattle.sp_model.specs.Walk.{and_then}
use Rattle.sp_model.specs.declared.outcome.Walk.{Walk}
use Rattle.sp_model.specs.declared.outcome.Walk.TheVariants.{Going, Full, Failed, Waiting}
use Rattle.sp_model.specs.declared.outcome.WalkState.{WalkState}

pub and_then_assoc : (w : Walk) (j k : WalkState → Walk) → and_then (and_then w j) k ≡ and_then w (λ s. and_then (j s) k)
and_then_assoc (Going s) j k = refl
and_then_assoc (Full s) j k = refl
and_then_assoc (Failed row column cause) j k = refl
and_then_assoc Waiting j k = refl

-- what goes on in the same way
pub and_then_same : (w : Walk) (j k : WalkState → Walk) → ((s : WalkState) → j s ≡ k s) → and_then w j ≡ and_then w k
and_then_same (Going s) j k h = h s
and_then_same (Full s) j k h = refl
and_then_same (Failed row column cause) j k h = refl
and_then_same Waiting j k h = refl
