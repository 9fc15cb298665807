-- None of what is taken out remains, and each turn takes one out at least.
use Rattle.decl_core.proofs.Leftovers.{AreOut, staying}
use Rattle.decl_core.proofs.taking.taken_out.Given as goal

abbrev pub invariant-loop-taken : goal.invariant-loop-taken
invariant-loop-taken l = AreOut l.functions l.taken

abbrev pub decreases-loop-taken : goal.decreases-loop-taken
decreases-loop-taken l = staying l.functions l.taken
