use Rattle.model_laws.proofs.UnitsAndNotes.{units_are}
use Rattle.model_laws.proofs.units_are_scans_of_their_connections.Goals as goal

pub returns : goal.returns
returns c = units_are
