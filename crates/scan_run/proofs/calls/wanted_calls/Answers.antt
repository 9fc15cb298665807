use Rattle.scan_run.proofs.Calling.{calls_wanted}
use Rattle.scan_run.proofs.calls.wanted_calls.Goals as goal

pub returns-in-Ok-clause-calls : goal.returns-in-Ok-clause-calls
returns-in-Ok-clause-calls g c = calls_wanted _ _ _ _ _ c.new-calls.ensures c.wanted.ensures.adds c.wanted.ensures.same
