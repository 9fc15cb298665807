-- What is decided of the function that was reached is what is decided of the one that was asked for.
use Rattle.std.proofs.Common.{◌≡◌, ◌-◌, length, true}
use Rattle.sp_model.specs.Hydration.{hydrated_in, hydrated_by}
use Rattle.hydrate_graph.specs.Following.{by_known}
use Rattle.hydrate_graph.specs.Graphs.{settled_by, known_in}
use Rattle.hydrate_graph.specs.Numbers.{number_of, name_at}
use Rattle.sp_model.specs.Rests.{rests_in}
use Rattle.hydrate_graph.proofs.plan.RowPlan.decided.Given as goal

abbrev pub invariant-loop-depth : goal.invariant-loop-depth
invariant-loop-depth l = record {
  first : number_of l.self.functions (name_at l.self.functions l.at) ≡ l.at;
  rest : rests_in (length l.self.functions - l._depth) l.self.functions (name_at l.self.functions l.at) ≡ true;
  same : hydrated_in (length l.self.functions - l._depth) l.self.functions (by_known (known_in l.self.functions (settled_by l.self.slots l.outcomes))) (name_at l.self.functions l.at)
      ≡ hydrated_by l.self.functions (by_known (known_in l.self.functions (settled_by l.self.slots l.outcomes))) (name_at l.self.functions l.function);
}
