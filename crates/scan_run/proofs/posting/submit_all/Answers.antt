use Rattle.scan_run.proofs.Calling.{jobs_left}
use Rattle.statement_words.proofs.Stops.{later_then}
use Rattle.scan_run.proofs.posting.submit_all.Goals as goal

pub loop-job-preserved : goal.loop-job-preserved
loop-job-preserved g c = record { lawful = jobs_left _ _ _ _ _ _ c.in-Some.ensures c.loop-job.invariant.lawful; state = later_then _ _ _ c.loop-job.invariant.state c.submit.ensures.state }
