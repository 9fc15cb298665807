use Rattle.statement_words.proofs.Stops.{later_then}
use Rattle.scan_run.proofs.States.{same_then}
use Rattle.scan_run.proofs.feeding.feed_to_end.Goals as goal

pub loop-preserved : goal.loop-preserved
loop-preserved g c =
    record {
      same = same_then _ _ _ (same_then _ _ _ c.loop.invariant.same c.submit_wanted.ensures.same) c.take_one.ensures.same;
      state = later_then _ _ _ (later_then _ _ _ c.loop.invariant.state c.submit_wanted.ensures.state) c.take_one.ensures.state;
    }

pub returns-in_err-take_one-clause-state : goal.returns-in_err-take_one-clause-state
returns-in_err-take_one-clause-state g c = later_then _ _ _ (later_then _ _ _ c.loop.invariant.state c.submit_wanted.ensures.state) c.take_one.ensures.state
