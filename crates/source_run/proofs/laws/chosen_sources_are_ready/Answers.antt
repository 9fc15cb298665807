use Rattle.source_run.proofs.Choosing.{ready_of}
use Rattle.source_run.proofs.laws.chosen_sources_are_ready.Goals as goal

pub returns : goal.returns
returns c = ready_of
