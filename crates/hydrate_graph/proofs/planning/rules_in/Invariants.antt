use Rattle.std.proofs.Common.{◌≡◌, take}
use Rattle.hydrate_graph.specs.Graphs.{rules_in}
use Rattle.hydrate_graph.proofs.planning.rules_in.Given as goal

abbrev pub invariant-loop-function : goal.invariant-loop-function
invariant-loop-function l = l.rules ≡ rules_in l.table (take l.function-index l.functions)
