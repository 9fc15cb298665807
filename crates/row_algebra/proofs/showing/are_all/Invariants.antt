use Rattle.std.proofs.Common.{drop}
use Rattle.row_algebra.specs.RowShown.{CountFrom}
use Rattle.row_algebra.proofs.showing.are_all.Given as goal

abbrev pub invariant-loop-index : goal.invariant-loop-index
invariant-loop-index l = CountFrom l.index (drop l.index l.columns) → CountFrom 0 l.columns
