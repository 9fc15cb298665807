-- The text so far, followed by the lines of the rows that are left, is the whole.
use Rattle.std.proofs.Common.{◌≡◌, ◌++◌, drop}
use Rattle.answer_text.specs.Table.{row_lines}
use Rattle.answer_text.proofs.table_text.push_rows.Given as goal

abbrev pub invariant-loop-row : goal.invariant-loop-row
invariant-loop-row l = l.text.items ++ row_lines l.widths l.kinds (drop l.row-index l.rows) ≡ l.fn.text.items ++ row_lines l.widths l.kinds l.rows
