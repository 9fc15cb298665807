use Rattle.load_gen.proofs.Keys.{keys_filter}
use Rattle.load_gen.proofs.laws.generated_keys_filter.Goals as goal

pub returns : goal.returns
returns c = keys_filter
