use Rattle.one_scan.specs.Views.{SameScan}
use Rattle.statement_words.specs.Runs.{IsLater}
use Rattle.scan_run.proofs.feeding.feed_to_end.Given as goal

abbrev pub invariant-loop : goal.invariant-loop
invariant-loop g l = record { same : SameScan l.fn.scan l.scan; state : IsLater (g.D.Desk.state l.fn.desk) (g.D.Desk.state l.desk) }
