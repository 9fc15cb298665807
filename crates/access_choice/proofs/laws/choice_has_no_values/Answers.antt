use Rattle.access_choice.proofs.Valueless.{no_values}
use Rattle.access_choice.proofs.laws.choice_has_no_values.Goals as goal

pub returns : goal.returns
returns c = no_values
