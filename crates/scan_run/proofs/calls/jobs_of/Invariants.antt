use Rattle.std.proofs.Common.{List, length}
use Rattle.std.specs.Prelude.{All}
use Rattle.std.specs.Arc.{arc_value}
use Rattle.sp_model.specs.declared.settings.Connection.{Connection}
use Rattle.call_jobs.specs.Lawful.{IsLawfulJob}
use Rattle.scan_run.specs.Asked.{IsTableOf}
use Rattle.scan_run.specs.Calls.{IsCallOf}
use Rattle.scan_run.proofs.calls.jobs_of.Given as goal

abbrev pub invariant-loop-wanted : goal.invariant-loop-wanted
invariant-loop-wanted g l =
    record {
      calls : All (IsCallOf (arc_value l.table) l.connection.name) l.calls;
      jobs : (connections : List Connection) → IsTableOf g.W.World.tells g.W.World.book connections l.connection (arc_value l.table) → All (IsLawfulJob g.W.World.tells g.W.World.book connections) l.jobs;
    }

abbrev pub decreases-loop-wanted : goal.decreases-loop-wanted
decreases-loop-wanted g l = length l.calls
