-- The greatest so far, and what is left to compare.
use Rattle.std.proofs.Common.{◌≡◌, drop, map}
use Rattle.std.specs.Prelude.{max, fold, slice_get}
use Rattle.answer_text.specs.Table.{shown_width, column_width}
use Rattle.answer_text.proofs.table_text.column_width.Given as goal

abbrev pub invariant-loop-row : goal.invariant-loop-row
invariant-loop-row l = fold max l.widest (map (λ row. shown_width l.kind (slice_get row l.place)) (drop l.row-index l.rows)) ≡ column_width l.place l.name l.kind l.rows
