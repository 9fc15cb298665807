-- The text so far, followed by the lines of the rows that are left, is the whole.
use Rattle.std.proofs.Common.{◌≡◌, ◌++◌, drop}
use Rattle.answer_text.specs.Lines.{records_from}
use Rattle.answer_text.proofs.line_text.push_records.Given as goal

abbrev pub invariant-loop-row : goal.invariant-loop-row
invariant-loop-row l = record {
  text : l.text.items ++ records_from l.number l.widest l.names l.kinds (drop l.row-index l.rows) ≡ l.fn.text.items ++ records_from 0 l.widest l.names l.kinds l.rows;
  counted : l.number ≡ l.row-index;
}
