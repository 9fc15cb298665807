use Rattle.plan_run.proofs.AllReady.{all_ready}
use Rattle.plan_run.proofs.laws.planned_sources_are_ready.Goals as goal

pub returns : goal.returns
returns c = all_ready
