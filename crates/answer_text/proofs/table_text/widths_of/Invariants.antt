-- The widths so far, followed by those of the columns that are left, are the whole.
use Rattle.std.proofs.Common.{◌≡◌, ◌++◌, drop}
use Rattle.answer_text.specs.Table.{widths_from, widths_of}
use Rattle.answer_text.proofs.table_text.widths_of.Given as goal

abbrev pub invariant-loop-name : goal.invariant-loop-name
invariant-loop-name l = record {
  widths : l.widths.items ++ widths_from l.place (drop l.name-index l.names) l.left l.rows ≡ widths_of l.names l.kinds l.rows;
  counted : l.place ≡ l.name-index;
}
