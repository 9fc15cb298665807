use Rattle.std.proofs.Common.{◌≡◌, true, List, Option, sym, ap, ◌∙◌}
use Rattle.std.specs.Arc.{arc_value}
use Rattle.sp_model.specs.declared.outcome.Outcome.{Outcome}
use Rattle.hydrate_graph.specs.Graphs.{Graph, settled_by, may_call}
use Rattle.hydrate_graph.proofs.Settling.{graph_settled, graph_follows}
use Rattle.hydrate_graph.proofs.graph.RowGraph.settle.Goals as goal

pub invariant_of-self : goal.invariant_of-self
invariant_of-self c =
    let p = arc_value c.self.inside.plan in
    let may : may_call p (settled_by p.slots c.self.inside.outcomes) c.args.function ≡ true = rw (← c.self.view_is) at (sym c.is_ready.ensures ∙ c.if-not-is_ready.false) in
    let at = rw c.deref.ensures at c.in-Some.ensures.value in
    let within = rw c.deref.ensures at c.in-Some.ensures.within in
    let apart = rw c.deref.ensures at c.in-Some.ensures.apart in
    let count = rw c.deref.ensures at c.in-Some.ensures.count in
    (graph_settled p c.self.inside.outcomes c.set.new.self c.args.function c.in-Some.slot c.args.outcome c.self.invariant may apart count (sym at) within c.set.ensures).0

pub returns-clause-ok : goal.returns-clause-ok
returns-clause-ok c =
    let p = arc_value c.self.inside.plan in
    let may : may_call p (settled_by p.slots c.self.inside.outcomes) c.args.function ≡ true = rw (← c.self.view_is) at (sym c.is_ready.ensures ∙ c.if-not-is_ready.false) in
    let at = rw c.deref.ensures at c.in-Some.ensures.value in
    let within = rw c.deref.ensures at c.in-Some.ensures.within in
    let apart = rw c.deref.ensures at c.in-Some.ensures.apart in
    let count = rw c.deref.ensures at c.in-Some.ensures.count in
    let g = graph_settled p c.self.inside.outcomes c.set.new.self c.args.function c.in-Some.slot c.args.outcome c.self.invariant may apart count (sym at) within c.set.ensures in
    let row : List (Option Outcome) → Graph = λ settled. record { plan = p; item = c.self.inside.item; settled = settled } in
    rw (← c.self.view_is) (ap row g.1)

pub returns-clause-follows : goal.returns-clause-follows
returns-clause-follows c = λ call f results follows found here gives.
    let p = arc_value c.self.inside.plan in
    let may : may_call p (settled_by p.slots c.self.inside.outcomes) c.args.function ≡ true = rw (← c.self.view_is) at (sym c.is_ready.ensures ∙ c.if-not-is_ready.false) in
    let at = rw c.deref.ensures at c.in-Some.ensures.value in
    let within = rw c.deref.ensures at c.in-Some.ensures.within in
    let apart = rw c.deref.ensures at c.in-Some.ensures.apart in
    let count = rw c.deref.ensures at c.in-Some.ensures.count in
    graph_follows p c.self.inside.outcomes c.set.new.self c.args.function c.in-Some.slot c.args.outcome c.self.invariant may apart count (sym at) within c.set.ensures
    call f results (rw (← c.self.view_is) at follows) (rw (← c.self.view_is) at found) (rw (← c.self.view_is) at here) gives
