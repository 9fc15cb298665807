-- The cells so far.
use Rattle.std.proofs.Common.{◌≡◌, take, map}
use Rattle.sql_bind.specs.Binding.{cell_of}
use Rattle.sql_bind.proofs.conditions.cells_of.Given as goal

abbrev pub invariant-loop-literal : goal.invariant-loop-literal
invariant-loop-literal l = l.cells ≡ map (λ x. cell_of x.constant) (take l.literal-index l.list)
