-- The lines so far were answered, and what was searched has no line feed.
use Rattle.std.proofs.Common.{◌≤◌, length}
use Rattle.std.specs.List.{position_or_len}
use Rattle.byte_lines.specs.Lines.{is_feed}
use Rattle.plugin_kit.specs.Steps.{HasPassed}
use Rattle.plugin_kit.proofs.serving.answer_waiting.Given as goal

abbrev pub invariant-loop-end : goal.invariant-loop-end
invariant-loop-end g l = record {
  passed : HasPassed (g.R.Routes.book l.routes) (g.O.Sink.held l.initial.sink) (g.O.Sink.held l.sink) l.initial.waiting l.waiting;
  none : l.at ≤ position_or_len is_feed l.waiting;
  later : g.O.Sink.faulted l.initial.sink ≤ g.O.Sink.faulted l.sink;
}

abbrev pub decreases-loop-end : goal.decreases-loop-end
decreases-loop-end g l = length l.waiting
