-- The text so far, followed by the names that are left, is the whole.
use Rattle.std.proofs.Common.{◌≡◌, ◌++◌, drop}
use Rattle.std.specs.Prelude.{codes}
use Rattle.answer_text.specs.Table.{names_rest}
use Rattle.answer_text.proofs.table_text.push_names.Given as goal

abbrev pub invariant-loop-width : goal.invariant-loop-width
invariant-loop-width l = l.text.items ++ names_rest (drop l.width-index l.widths) l.left ≡ l.fn.text.items ++ (codes "|" ++ names_rest l.widths l.names)
