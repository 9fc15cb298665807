-- The lines so far, followed by those of the sources that are left.
use Rattle.std.proofs.Common.{◌≡◌, ◌+◌, ◌++◌, drop}
use Rattle.explain_text.specs.Lines.{lines_from}
use Rattle.explain_text.proofs.lines.lines_of.Given as goal

abbrev pub invariant-loop-source : goal.invariant-loop-source
invariant-loop-source l = record {
  counted : l.number ≡ l.source-index;
  text : l.text.items ++ lines_from l.sources l.plans (l.number + 1) (drop l.source-index l.sources) (drop l.source-index l.plans) ≡ lines_from l.sources l.plans 1 l.sources l.plans;
}
