use Rattle.sp_model.proofs.Lawful.{at_most}
use Rattle.sp_model.proofs.laws.call_has_at_most_its_attempts.Goals as goal

pub returns : goal.returns
returns c = at_most
