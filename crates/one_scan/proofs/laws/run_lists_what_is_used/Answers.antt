use Rattle.one_scan.proofs.Running.{run_lists}
use Rattle.one_scan.proofs.laws.run_lists_what_is_used.Goals as goal

pub returns : goal.returns
returns c = run_lists
