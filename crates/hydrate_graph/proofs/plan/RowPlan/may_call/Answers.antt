use Rattle.std.proofs.Common.{◌≡◌, ◌<◌, length, get_or, false, is_some, None, sym, ap, ◌∙◌, arith}
use Rattle.std.specs.List.{find}
use Rattle.hydrate_graph.specs.Graphs.{settled_by}
use Rattle.hydrate_graph.specs.Numbers.{needs_of}
use Rattle.hydrate_graph.proofs.Chain.{waiting_in}
use Rattle.hydrate_graph.proofs.Results.{needs_at, needs_out, may_call_is, copied_some, none_from}
use Rattle.hydrate_graph.proofs.Slots.{wanted_below}
use Rattle.hydrate_graph.proofs.plan.RowPlan.may_call.Goals as goal

pub returns-in_default : goal.returns-in_default
returns-in_default c =
    let p = c.args.self.now in
    let kept : c.self.inside.needs ≡ needs_of p.functions = c.self.invariant.needs_are ∙ ap (λ q. needs_of q.functions) c.self.view_is in
    let below = wanted_below p.slots c.args.function (sym c.wants.ensures ∙ c.if-not-wants.false) in
    let l : c.args.function < length p.functions = omega (arith, below, c.self.invariant.count, ap (λ q. length q.slots) c.self.view_is, ap (λ q. length q.functions) c.self.view_is) in
    absurd (needs_out p.functions c.self.inside.needs c.args.function kept l c.in_default.ensures.value)

pub returns : goal.returns
returns c =
    let p = c.args.self.now in
    let settled = settled_by p.slots c.args.outcomes.now in
    let kept : c.self.inside.needs ≡ needs_of p.functions = c.self.invariant.needs_are ∙ ap (λ q. needs_of q.functions) c.self.view_is in
    let open_ : is_some (get_or settled c.args.function None) ≡ false = ap is_some (sym c.settled.ensures) ∙ copied_some c.settled.result ∙ sym c.is_some.ensures ∙ c.if-is_some.false in
    none_from c.first_waiting.result c.is_none.result c.is_none.ensures ∙ may_call_is p settled c.args.function c.in-Some.needs.now c.first_waiting.result (sym c.wants.ensures ∙ c.if-not-wants.false) open_ (needs_at p.functions c.self.inside.needs c.args.function c.in-Some.needs.now kept c.in-Some.ensures.value)
    (c.first_waiting.ensures ∙ ap (find (waiting_in settled)) c.as_slice.ensures)
