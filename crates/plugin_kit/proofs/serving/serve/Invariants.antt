-- So many bytes were taken, the whole lines among them were answered, and what was searched has no line feed.
use Rattle.std.proofs.Common.{◌≤◌, ◌-◌, ◌^◌}
use Rattle.std.specs.List.{position_or_len}
use Rattle.byte_lines.specs.Lines.{is_feed}
use Rattle.plugin_kit.specs.Steps.{IsServing}
use Rattle.plugin_kit.proofs.serving.serve.Given as goal

abbrev pub invariant-loop-taken : goal.invariant-loop-taken
invariant-loop-taken g l = record {
  serving : IsServing (g.R.Routes.book l.routes) (g.I.ByteSource.left l.initial.source) (g.I.ByteSource.left l.source) (g.O.Sink.held l.initial.sink) (g.O.Sink.held l.sink) l.waiting l.taken;
  none : l.searched ≤ position_or_len is_feed l.waiting;
  within : l.taken ≤ 2 ^ 62;
  reads : g.I.ByteSource.faulted l.initial.source ≤ g.I.ByteSource.faulted l.source;
  writes : g.O.Sink.faulted l.initial.sink ≤ g.O.Sink.faulted l.sink;
}

abbrev pub decreases-loop-taken : goal.decreases-loop-taken
decreases-loop-taken g l = 2 ^ 62 - l.taken
