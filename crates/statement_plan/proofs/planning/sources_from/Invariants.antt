-- The sources so far are planned, and the first that lacks keys is among those that are left.
use Rattle.std.proofs.Common.{◌≡◌, take, drop}
use Rattle.statement_plan.specs.Plans.{AreSourcesOf, missing_from}
use Rattle.statement_plan.proofs.planning.sources_from.Given as goal

abbrev pub invariant-loop-source : goal.invariant-loop-source
invariant-loop-source l = record {
  counted : l.number ≡ l.source-index;
  planned : AreSourcesOf l.said.bound.now 0 (take l.source-index l.sources) l.planned;
  left : missing_from l.said.bound.now l.number (drop l.source-index l.sources) ≡ missing_from l.said.bound.now 0 l.sources;
}
