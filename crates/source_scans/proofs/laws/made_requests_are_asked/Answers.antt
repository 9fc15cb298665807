use Rattle.source_scans.proofs.MadeAsked.{made_are_asked}
use Rattle.source_scans.proofs.laws.made_requests_are_asked.Goals as goal

pub returns : goal.returns
returns c = made_are_asked
