use Rattle.load_gen.proofs.Forms.{forms}
use Rattle.load_gen.proofs.laws.generated_keeps_forms.Goals as goal

pub returns : goal.returns
returns c = forms
