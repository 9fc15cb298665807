-- The text so far, followed by the rest of the border, is the whole.
use Rattle.std.proofs.Common.{◌≡◌, ◌++◌, drop}
use Rattle.answer_text.specs.Table.{border_rest, border}
use Rattle.answer_text.proofs.table_text.push_border.Given as goal

abbrev pub invariant-loop-width : goal.invariant-loop-width
invariant-loop-width l = l.text.items ++ border_rest (drop l.width-index l.widths) ≡ l.fn.text.items ++ border l.widths
