use Rattle.scan_core.proofs.Waits.{still_open}
use Rattle.scan_core.proofs.laws.still_scan_is_open.Goals as goal

pub returns : goal.returns
returns c = still_open
