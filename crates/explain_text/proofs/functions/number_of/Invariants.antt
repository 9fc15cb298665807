-- The number so far, and that among the functions that are left.
use Rattle.std.proofs.Common.{◌≡◌, ◌+◌, drop}
use Rattle.hydrate_graph.specs.Numbers.{number_of}
use Rattle.explain_text.proofs.functions.number_of.Given as goal

abbrev pub invariant-loop-function : goal.invariant-loop-function
invariant-loop-function l = record {
  counted : l.number ≡ l.function-index;
  left : l.number + number_of (drop l.function-index l.functions) l.name ≡ number_of l.functions l.name;
}
