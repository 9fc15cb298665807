-- What was read so far waits, and what was searched has no line feed.
use Rattle.std.proofs.Common.{◌≤◌}
use Rattle.std.specs.List.{position_or_len}
use Rattle.byte_lines.specs.Lines.{is_feed, ReadsMore}
use Rattle.steampipe_main.proofs.pending_lines.next_line.Given as goal

abbrev pub invariant-loop : goal.invariant-loop
invariant-loop g l = record {
  more : ReadsMore l.initial.pending l.pending (g.R.Read.remaining l.initial.from) (g.R.Read.remaining l.from);
  none : l.searched ≤ position_or_len is_feed l.pending;
}
