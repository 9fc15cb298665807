use Rattle.scan_run.proofs.Calling.{calls_left, jobs_more}
use Rattle.scan_run.proofs.calls.jobs_of.Goals as goal

pub loop-wanted-preserved : goal.loop-wanted-preserved
loop-wanted-preserved g c =
    record {
      calls = calls_left _ _ _ _ _ c.in-Some.ensures c.loop-wanted.invariant.calls;
      jobs = λ connections place. jobs_more _ _ _ _ _ _ c.in-Ok-push.ensures.ok (c.loop-wanted.invariant.jobs connections place) (c.in-Ok.ensures connections place);
    }
