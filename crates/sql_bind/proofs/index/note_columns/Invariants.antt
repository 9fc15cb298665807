-- The columns from this one on are noted, and those of the later sources.
use Rattle.std.proofs.Common.{drop}
use Rattle.sql_bind.proofs.Keeping.{ColumnsFrom, later_fits}
use Rattle.sql_bind.proofs.index.note_columns.Given as goal

abbrev pub invariant-loop-column : goal.invariant-loop-column
invariant-loop-column l = ColumnsFrom l.notes l.alias l.n (later_fits l.all l.n) l.column (drop l.column l.columns)
