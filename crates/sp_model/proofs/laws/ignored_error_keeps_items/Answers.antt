use Rattle.sp_model.proofs.Lawful.{ignored_keeps}
use Rattle.sp_model.proofs.laws.ignored_error_keeps_items.Goals as goal

pub returns : goal.returns
returns c = ignored_keeps
