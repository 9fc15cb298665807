use Rattle.model_laws.proofs.LawfulCalls.{lawful_calls}
use Rattle.model_laws.proofs.lawful_scan_makes_lawful_calls.Goals as goal

pub returns : goal.returns
returns c = lawful_calls
