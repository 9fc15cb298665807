use Rattle.model_laws.proofs.Served.{covered}
use Rattle.model_laws.proofs.covered_scan_gives_the_rows.Goals as goal

pub returns : goal.returns
returns c = covered
