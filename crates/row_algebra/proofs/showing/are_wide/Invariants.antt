use Rattle.std.proofs.Common.{drop}
use Rattle.row_algebra.specs.RowShown.{AreWide}
use Rattle.row_algebra.proofs.showing.are_wide.Given as goal

abbrev pub invariant-loop-row : goal.invariant-loop-row
invariant-loop-row l = AreWide l.width (drop l.row-index l.rows) → AreWide l.width l.rows
