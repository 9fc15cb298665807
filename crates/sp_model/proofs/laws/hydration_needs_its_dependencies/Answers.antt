use Rattle.sp_model.proofs.Lawful.{needs_dependencies}
use Rattle.sp_model.proofs.laws.hydration_needs_its_dependencies.Goals as goal

pub returns : goal.returns
returns c = needs_dependencies
