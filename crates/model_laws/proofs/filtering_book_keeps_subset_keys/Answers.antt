use Rattle.model_laws.proofs.FilteringBooks.{keeps_promise}
use Rattle.model_laws.proofs.filtering_book_keeps_subset_keys.Goals as goal

pub returns : goal.returns
returns c = keeps_promise
