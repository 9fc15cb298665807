use Rattle.load_gen.proofs.Keys.{declares}
use Rattle.load_gen.proofs.laws.generated_declares_rows.Goals as goal

pub returns : goal.returns
returns c = declares
