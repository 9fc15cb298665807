-- The text so far, followed by the lines of the cells that are left, is the whole.
use Rattle.std.proofs.Common.{◌≡◌, ◌++◌, drop}
use Rattle.answer_text.specs.Lines.{cell_lines}
use Rattle.answer_text.proofs.line_text.push_cells.Given as goal

abbrev pub invariant-loop-name : goal.invariant-loop-name
invariant-loop-name l = l.text.items ++ cell_lines l.widest (drop l.name-index l.names) l.kinds_left l.cells ≡ l.fn.text.items ++ cell_lines l.widest l.names l.kinds l.row
