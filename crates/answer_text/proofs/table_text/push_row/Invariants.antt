-- The text so far, followed by the cells that are left, is the whole.
use Rattle.std.proofs.Common.{◌≡◌, ◌++◌, drop}
use Rattle.std.specs.Prelude.{codes}
use Rattle.answer_text.specs.Table.{cells_rest}
use Rattle.answer_text.proofs.table_text.push_row.Given as goal

abbrev pub invariant-loop-width : goal.invariant-loop-width
invariant-loop-width l = l.text.items ++ cells_rest (drop l.width-index l.widths) l.kinds_left l.cells ≡ l.fn.text.items ++ (codes "|" ++ cells_rest l.widths l.kinds l.row)
