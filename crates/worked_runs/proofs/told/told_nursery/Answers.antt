use Rattle.worked_runs.proofs.TextForms.{text_forms}
use Rattle.worked_runs.proofs.told.told_nursery.Goals as goal

pub new-requires-clause-sayable : goal.new-requires-clause-sayable
new-requires-clause-sayable g c = text_forms g.T.BookText.text
