use Rattle.std.proofs.Common.{◌+◌, ◌-◌, ◌^◌, ap, ◌∙◌}
use Rattle.std.specs.Prelude.{min}
use Rattle.run_lines.proofs.CallLaws.{one_more}
use Rattle.run_lines.proofs.counting.calls_of.Goals as goal

pub loop-slot-preserved : goal.loop-slot-preserved
loop-slot-preserved g c =
    c.saturating_add-calls.ensures
    ∙ ap (λ n. min (c.loop-slot.calls + n) (2 ^ 64 - 1)) (c.sent.ensures ∙ ap g.C.Child.sends (c.child.ensures ∙ ap (λ p. p.link.child) c.parts.ensures.value))
    ∙ one_more (λ s. g.C.Child.sends s.link.child) c.args.slots.now c.loop-slot.slot-index c.slot-item.result c.loop-slot.calls c.loop-slot-test.true c.slot-item.is c.loop-slot.invariant
