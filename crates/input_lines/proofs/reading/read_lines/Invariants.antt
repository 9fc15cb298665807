-- What was read, and what the rest gives, make up the input's.
use Rattle.std.proofs.Common.{◌≡◌, ◌+◌, ◌≤◌, ◌++◌, length}
use Rattle.input_lines.specs.Lines.{lines_of, lines_to_answer, line_limit}
use Rattle.input_lines.proofs.reading.read_lines.Given as goal

abbrev pub invariant-loop-rest : goal.invariant-loop-rest
invariant-loop-rest l = (lines_to_answer l.input ≡ l.lines ++ lines_to_answer l.rest) × (length (lines_of l.input) ≡ l.count + length (lines_of l.rest)) × (l.count ≤ line_limit)

abbrev pub decreases-loop-rest : goal.decreases-loop-rest
decreases-loop-rest l = length l.rest
