use Rattle.std.proofs.Common.{◌≡◌, ℕ, suc, length, subst, arith, add-one}
use Rattle.rate_gate.specs.Instances.{Kept, Ready, First}
use Rattle.rate_gate.specs.Limits.{IsLimiter}
use Rattle.rate_gate.proofs.Lists.{first_none, first_more, first_length, first_next, first_weaker, first_all, first_new}
use Rattle.rate_gate.proofs.Grants.{kept_self}
use Rattle.rate_gate.proofs.limits.prepare_all.Goals as goal

pub loop-k-init : goal.loop-k-init
loop-k-init c = first_none (λ s t. Kept s t × Ready c.args.call.now t) c.args.limits.now

pub prepare-requires : goal.prepare-requires
prepare-requires c =
    first_next (λ s t. Kept s t × Ready c.args.call.now t) (λ s. IsLimiter s.limiter) c.args.limits.now c.loop-k.limits c.loop-k.k _ c.requires c.loop-k.invariant
    (let len = first_length (λ s t. Kept s t × Ready c.args.call.now t) c.args.limits.now c.loop-k.limits c.loop-k.k c.loop-k.invariant in let lt = c.loop-k-test.true in omega arith)

pub returns-in_err-prepare-clause-kept : goal.returns-in_err-prepare-clause-kept
returns-in_err-prepare-clause-kept c =
    let weak = first_weaker (λ s t. Kept s t × Ready c.args.call.now t) Kept (λ x y p. p.0) c.args.limits.now c.loop-k.limits c.loop-k.k c.loop-k.invariant in
    first_all Kept kept_self c.args.limits.now _ (suc c.loop-k.k) (first_more Kept c.args.limits.now c.loop-k.limits c.loop-k.k _ _ weak
    (let len = first_length Kept c.args.limits.now c.loop-k.limits c.loop-k.k weak in let lt = c.loop-k-test.true in omega arith) c.prepare.ensures.kept)

pub loop-k-preserved : goal.loop-k-preserved
loop-k-preserved c =
    rw (add-one) (first_more (λ s t. Kept s t × Ready c.args.call.now t) c.args.limits.now c.loop-k.limits c.loop-k.k _ _ c.loop-k.invariant
    (let len = first_length (λ s t. Kept s t × Ready c.args.call.now t) c.args.limits.now c.loop-k.limits c.loop-k.k c.loop-k.invariant in let lt = c.loop-k-test.true in omega arith)
    (c.in_ok-prepare.ensures.kept, c.in_ok-prepare.ensures.ready))

pub returns-clause-kept : goal.returns-clause-kept
returns-clause-kept c =
    first_all Kept kept_self c.args.limits.now c.loop-k.limits c.loop-k.k
    (first_weaker (λ s t. Kept s t × Ready c.args.call.now t) Kept (λ x y p. p.0) c.args.limits.now c.loop-k.limits c.loop-k.k c.loop-k.invariant)

pub returns-clause-ready : goal.returns-clause-ready
returns-clause-ready c =
    let whole : c.loop-k.k ≡ length c.args.limits.now = (let a = c.loop-k-test.false in let b = c.loop-k.auto.k-end in omega arith) in
    first_new (λ s t. Kept s t × Ready c.args.call.now t) (Ready c.args.call.now) (λ x y p. p.1) c.args.limits.now c.loop-k.limits
    (subst (λ (n : ℕ). First (λ s t. Kept s t × Ready c.args.call.now t) c.args.limits.now c.loop-k.limits n) whole c.loop-k.invariant)
