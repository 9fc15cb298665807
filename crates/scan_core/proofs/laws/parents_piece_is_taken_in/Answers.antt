use Rattle.scan_core.proofs.Keeping.{outer_hears}
use Rattle.scan_core.proofs.laws.parents_piece_is_taken_in.Goals as goal

pub returns : goal.returns
returns c = outer_hears
