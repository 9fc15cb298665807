use Rattle.std.proofs.Common.{◌≡◌, false, arith, add-one}
use Rattle.rate_gate.specs.Instances.{Changed, Took, Before, TokenNow, full_now}
use Rattle.rate_gate.proofs.Lists.{first_none, first_more, first_length, first_next}
use Rattle.rate_gate.proofs.Grants.{all_free}
use Rattle.rate_gate.proofs.limits.take_all.Goals as goal

pub loop-k-init : goal.loop-k-init
loop-k-init c = first_none (Changed (Took c.args.tick)) c.args.limits.now

pub take-requires-clause-since : goal.take-requires-clause-since
take-requires-clause-since c =
    first_next (Changed (Took c.args.tick)) (Before c.args.tick) c.args.limits.now c.loop-k.limits c.loop-k.k _ c.requires.since c.loop-k.invariant
    (let len = first_length (Changed (Took c.args.tick)) c.args.limits.now c.loop-k.limits c.loop-k.k c.loop-k.invariant in let lt = c.loop-k-test.true in omega arith)

pub take-requires-clause-token : goal.take-requires-clause-token
take-requires-clause-token c =
    first_next (Changed (Took c.args.tick)) (TokenNow c.args.tick) c.args.limits.now c.loop-k.limits c.loop-k.k _ c.requires.token c.loop-k.invariant
    (let len = first_length (Changed (Took c.args.tick)) c.args.limits.now c.loop-k.limits c.loop-k.k c.loop-k.invariant in let lt = c.loop-k-test.true in omega arith)

pub take-requires-clause-place : goal.take-requires-clause-place
take-requires-clause-place c =
    first_next (Changed (Took c.args.tick)) (λ s. full_now s ≡ false) c.args.limits.now c.loop-k.limits c.loop-k.k _ (all_free c.args.limits.now c.requires.place) c.loop-k.invariant
    (let len = first_length (Changed (Took c.args.tick)) c.args.limits.now c.loop-k.limits c.loop-k.k c.loop-k.invariant in let lt = c.loop-k-test.true in omega arith)

pub loop-k-preserved : goal.loop-k-preserved
loop-k-preserved c =
    rw (add-one) (first_more (Changed (Took c.args.tick)) c.args.limits.now c.loop-k.limits c.loop-k.k _ _ c.loop-k.invariant
    (let len = first_length (Changed (Took c.args.tick)) c.args.limits.now c.loop-k.limits c.loop-k.k c.loop-k.invariant in let lt = c.loop-k-test.true in omega arith)
    c.take.ensures)
