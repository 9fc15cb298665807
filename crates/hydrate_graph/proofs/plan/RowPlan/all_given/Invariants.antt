use Rattle.std.proofs.Common.{◌≡◌, get_or, map, take, ℕ, Option, None}
use Rattle.sp_model.specs.declared.outcome.Outcome.{Outcome}
use Rattle.hydrate_graph.specs.Graphs.{settled_by}
use Rattle.hydrate_graph.specs.Ordered.{result_of}
use Rattle.hydrate_graph.proofs.plan.RowPlan.all_given.Given as goal

abbrev pub invariant-loop-function : goal.invariant-loop-function
invariant-loop-function l =
    let none : Option Outcome = None in
    l.values ≡ map (λ (k : ℕ). result_of (get_or (settled_by l.self.slots l.outcomes) k none)) (take l.function-index l.functions)
