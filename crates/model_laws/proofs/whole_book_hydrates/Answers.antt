use Rattle.model_laws.proofs.Whole.{whole_hydrates}
use Rattle.model_laws.proofs.whole_book_hydrates.Goals as goal

pub returns : goal.returns
returns c = whole_hydrates
