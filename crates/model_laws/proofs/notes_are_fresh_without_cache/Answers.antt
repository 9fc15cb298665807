use Rattle.model_laws.proofs.UnitsAndNotes.{notes_fresh}
use Rattle.model_laws.proofs.notes_are_fresh_without_cache.Goals as goal

pub returns : goal.returns
returns c = notes_fresh
