use Rattle.std.proofs.Common.{◌≡◌, drop}
use Rattle.sp_model.specs.Walk.{visit_all}
use Rattle.plain_program.proofs.walking.visit_all.Given as goal

abbrev pub invariant-loop-item : goal.invariant-loop-item
invariant-loop-item g l = visit_all (g.V.Visit.visits l.visitor) (drop l.item-index l.items) l.reached ≡ visit_all (g.V.Visit.visits l.visitor) l.items l.fn.state
