use Rattle.scan_core.proofs.Keeping.{advance_keeps}
use Rattle.scan_core.proofs.laws.scan_goes_on.Goals as goal

pub returns : goal.returns
returns c = advance_keeps
