use Rattle.scan_core.proofs.Keeping.{inner_hears}
use Rattle.scan_core.proofs.laws.piece_is_taken_in.Goals as goal

pub returns : goal.returns
returns c = inner_hears
