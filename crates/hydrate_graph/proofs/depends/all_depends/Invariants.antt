use Rattle.std.proofs.Common.{◌≡◌, map, take}
use Rattle.hydrate_graph.specs.Ordered.{depends_in}
use Rattle.hydrate_graph.proofs.depends.all_depends.Given as goal

abbrev pub invariant-loop-function : goal.invariant-loop-function
invariant-loop-function l = l.all ≡ map (λ f. depends_in l.functions f.depends) (take l.function-index l.functions)
