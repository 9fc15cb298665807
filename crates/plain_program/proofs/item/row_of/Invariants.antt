use Rattle.std.proofs.Common.{◌≡◌, drop}
use Rattle.sp_model.specs.Hydration.{hydrated}
use Rattle.sp_model.specs.RowOf.{row_of}
use Rattle.plain_program.proofs.Cells.{with_cells}
use Rattle.plain_program.proofs.item.row_of.Given as goal

abbrev pub invariant-loop-column : goal.invariant-loop-column
invariant-loop-column g l =
    let gives = hydrated l.table (g.R.Replies.answers l.replies) l.item in
    row_of gives l.columns l.item ≡ with_cells l.cells (row_of gives (drop l.column-index l.columns) l.item)
