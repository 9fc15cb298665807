-- The first column of that name among those left is the first.
use Rattle.std.proofs.Common.{◌≡◌, drop}
use Rattle.sql_bind.specs.Fits.{column_named}
use Rattle.sql_bind.proofs.fitting.column_named.Given as goal

abbrev pub invariant-loop-column : goal.invariant-loop-column
invariant-loop-column l = column_named l.source l.column l.name (drop l.column l.columns) ≡ column_named l.source 0 l.name l.columns
