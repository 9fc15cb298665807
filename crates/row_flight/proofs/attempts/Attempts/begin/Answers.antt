use Rattle.row_flight.proofs.Beginning.{all_fresh}
use Rattle.row_flight.proofs.attempts.Attempts.begin.Goals as goal

pub invariant_of-result : goal.invariant_of-result
invariant_of-result c = rw c.loop-slot.invariant (all_fresh _)
