use Rattle.std.proofs.Common.{ℕ, ◌+◌, List, take, sym, subst, arith}
use Rattle.std.proofs.lemmas.List.{take_all}
use Rattle.std.specs.List.{AllByRecursion}
use Rattle.rate_bucket.specs.Windows.{IsFirstFrom}
use Rattle.rate_gate.specs.declared.limited.Limited.{Limited}
use Rattle.rate_gate.specs.Instances.{TokenNow}
use Rattle.rate_gate.proofs.Firsts.{first_none_of, first_of_more}
use Rattle.rate_gate.proofs.limits.latest.Goals as goal

pub loop-limited-init : goal.loop-limited-init
loop-limited-init c = first_none_of _ c.args.tick (λ u. tt)

pub loop-limited-preserved : goal.loop-limited-preserved
loop-limited-preserved c =
    let i = c.loop-limited.limited-index in
    subst (λ (n : ℕ). IsFirstFrom c.args.tick (λ u. AllByRecursion (TokenNow u) (take (i + 1) c.args.limits.now)) n) (sym c.max-next.ensures)
    (first_of_more TokenNow c.args.limits.now i c.limited-item.result c.args.tick c.loop-limited.next c.next_token.result c.loop-limited-test.true c.loop-limited.invariant
    (subst (λ (s : Limited). IsFirstFrom c.args.tick (λ u. TokenNow u s) c.next_token.result) c.limited-item.is c.next_token.ensures))

pub returns : goal.returns
returns c =
    let past = c.loop-limited-test.false in
    subst (λ (xs : List Limited). IsFirstFrom c.args.tick (λ u. AllByRecursion (TokenNow u) xs) c.loop-limited.next) (take_all c.loop-limited.limited-index c.args.limits.now (omega arith)) c.loop-limited.invariant
