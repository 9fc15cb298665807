use Rattle.std.proofs.Common.{◌≡◌, take, map}
use Rattle.statement_plan.specs.Placed.{placed_test}
use Rattle.statement_plan.proofs.placing.+places.Given as goal

abbrev pub invariant-placed_tests-loop-member : goal.invariant-placed_tests-loop-member
invariant-placed_tests-loop-member l = l.tests ≡ map (placed_test l.sources l.layout) (take l.member-index l.members)
