use Rattle.std.proofs.Common.{◌≡◌, ◌++◌, drop}
use Rattle.sp_model.specs.RowOf.{names_of_columns, columns_named}
use Rattle.worked_books.proofs.lawful.names_among.Given as goal

abbrev pub invariant-loop-column : goal.invariant-loop-column
invariant-loop-column l =
    l.found ++ names_of_columns (columns_named l.names (drop l.column-index l.columns)) ≡ names_of_columns (columns_named l.names l.columns)
