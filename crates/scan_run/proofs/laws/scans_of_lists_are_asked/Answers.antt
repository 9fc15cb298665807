use Rattle.scan_run.proofs.Serving.{asked_of_list}
use Rattle.scan_run.proofs.laws.scans_of_lists_are_asked.Goals as goal

pub returns : goal.returns
returns c = asked_of_list
