use Rattle.std.proofs.Common.{◌≡◌, ◌++◌, drop}
use Rattle.statement_plan.specs.Columns.{layout_from}
use Rattle.statement_plan.proofs.layout.layout_from.Given as goal

abbrev pub invariant-loop-source : goal.invariant-loop-source
invariant-loop-source l = record {
  counted : l.number ≡ l.source-index;
  is : l.layout ++ layout_from l.sources l.named l.number (drop l.number l.sources) ≡ layout_from l.sources l.named 0 l.sources;
}
