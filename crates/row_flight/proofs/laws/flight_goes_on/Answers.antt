use Rattle.row_flight.proofs.Going.{flight_goes_on}
use Rattle.row_flight.proofs.laws.flight_goes_on.Goals as goal

pub returns : goal.returns
returns c = flight_goes_on
