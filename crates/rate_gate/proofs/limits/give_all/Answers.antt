use Rattle.std.proofs.Common.{arith, add-one}
use Rattle.rate_gate.specs.Instances.{Returned, MayReturn}
use Rattle.rate_gate.proofs.Lists.{first_none, first_more, first_length, first_next}
use Rattle.rate_gate.proofs.limits.give_all.Goals as goal

pub loop-k-init : goal.loop-k-init
loop-k-init c = first_none (Returned c.args.tags.now) c.args.limits.now

pub give_back-requires : goal.give_back-requires
give_back-requires c =
    first_next (Returned c.args.tags.now) (MayReturn c.args.tags.now) c.args.limits.now c.loop-k.limits c.loop-k.k _ c.requires c.loop-k.invariant
    (let len = first_length (Returned c.args.tags.now) c.args.limits.now c.loop-k.limits c.loop-k.k c.loop-k.invariant in let lt = c.loop-k-test.true in omega arith)

pub loop-k-preserved : goal.loop-k-preserved
loop-k-preserved c =
    rw (add-one) (first_more (Returned c.args.tags.now) c.args.limits.now c.loop-k.limits c.loop-k.k _ _ c.loop-k.invariant
    (let len = first_length (Returned c.args.tags.now) c.args.limits.now c.loop-k.limits c.loop-k.k c.loop-k.invariant in let lt = c.loop-k-test.true in omega arith)
    c.give_back.ensures)
