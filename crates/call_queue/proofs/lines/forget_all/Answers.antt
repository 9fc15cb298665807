use Rattle.std.proofs.Common.{List, refl, ap, ◌∙◌, arith, add-one, slice_set, slice_index_or}
use Rattle.call_queue.specs.Queues.{forgotten}
use Rattle.call_queue.specs.declared.lines.NamedLine.{NamedLine}
use Rattle.call_queue.proofs.Naming.{one_more, all_changed, no_line_named}
use Rattle.call_queue.proofs.lines.forget_all.Goals as goal

pub loop-k-init : goal.loop-k-init
loop-k-init c = refl

pub forget_at-requires : goal.forget_at-requires
forget_at-requires c = omega (arith, c.loop-k.auto.lines)

pub loop-k-preserved : goal.loop-k-preserved
loop-k-preserved c =
    c.forget_at.ensures no_line_named
    ∙ ap (λ (lines : List NamedLine). slice_set lines c.loop-k.k (forgotten c.args.session (slice_index_or lines c.loop-k.k no_line_named))) c.loop-k.invariant
    ∙ rw (add-one) (one_more (forgotten c.args.session) c.args.lines.now c.loop-k.k no_line_named c.loop-k-test.true)

pub returns : goal.returns
returns c = c.loop-k.invariant ∙ all_changed (forgotten c.args.session) c.args.lines.now c.loop-k.k c.loop-k-test.false
