use Rattle.std.proofs.Common.{length}
use Rattle.std.specs.Prelude.{All}
use Rattle.call_jobs.specs.Lawful.{IsLawfulJob}
use Rattle.statement_words.specs.Runs.{IsLater}
use Rattle.scan_run.proofs.posting.submit_all.Given as goal

abbrev pub invariant-loop-job : goal.invariant-loop-job
invariant-loop-job g l =
    record { lawful : All (IsLawfulJob g.W.World.tells g.W.World.book l.settings.connections) l.jobs; state : IsLater (g.D.Desk.state l.fn.desk) (g.D.Desk.state l.desk) }

abbrev pub decreases-loop-job : goal.decreases-loop-job
decreases-loop-job g l = length l.jobs
