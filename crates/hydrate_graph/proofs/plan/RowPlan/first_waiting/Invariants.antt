-- The first among those left is the first.
use Rattle.std.proofs.Common.{◌≡◌, drop, get_or, not, ℕ, Bool, Option, None}
use Rattle.std.specs.List.{find}
use Rattle.sp_model.specs.Hydration.{gave}
use Rattle.sp_model.specs.declared.outcome.Outcome.{Outcome}
use Rattle.hydrate_graph.specs.Graphs.{settled_by}
use Rattle.hydrate_graph.proofs.plan.RowPlan.first_waiting.Given as goal

abbrev pub invariant-loop-number : goal.invariant-loop-number
invariant-loop-number l =
    let none : Option Outcome = None in
    let test : ℕ → Bool = λ k. not (gave (get_or (settled_by l.self.slots l.outcomes) k none)) in
    find test (drop l.number-index l.needs) ≡ find test l.needs
