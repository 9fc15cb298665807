-- Nothing is said of the children.
use Rattle.steampipe_main.proofs.piped.end_all.Given as goal

abbrev pub invariant-loop : goal.invariant-loop
invariant-loop g l = Unit {0}
