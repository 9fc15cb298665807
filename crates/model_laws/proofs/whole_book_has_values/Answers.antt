use Rattle.model_laws.proofs.Whole.{whole_values}
use Rattle.model_laws.proofs.whole_book_has_values.Goals as goal

pub returns : goal.returns
returns c = whole_values
