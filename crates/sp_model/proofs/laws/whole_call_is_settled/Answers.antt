use Rattle.sp_model.proofs.Lawful.{whole_settles}
use Rattle.sp_model.proofs.laws.whole_call_is_settled.Goals as goal

pub returns : goal.returns
returns c = whole_settles
