use Rattle.std.proofs.Common.{◌≡◌, ◌+◌, ◌-◌, ◌*◌, min, suc, ap, ◌∙◌, arith}
use Rattle.sp_model.specs.Delays.{fibonacci}
use Rattle.retry_ignore.proofs.Capped.{fibonacci_on}
use Rattle.retry_ignore.proofs.delays.by_fibonacci.Goals as goal

pub loop-step-preserved : goal.loop-step-preserved
loop-step-preserved c =
    let here : c.loop-step._step ≡ suc (c.loop-step._step - 1) = omega arith in
    let more : c.loop-step._step + 1 ≡ suc (suc (c.loop-step._step - 1)) = omega arith in
    let same : c.loop-step._step ≡ c.loop-step._step + 1 - 1 = omega arith in
    record {
      before = c.loop-step.invariant.now ∙ ap (λ k. min c.args.cap (c.args.interval * fibonacci k)) same;
      now = fibonacci_on c.args.cap c.args.interval (c.loop-step._step - 1) c.loop-step._step (c.loop-step._step + 1) c.loop-step.before c.loop-step.now c.capped_sum-next.result here more c.loop-step.invariant.before c.loop-step.invariant.now c.capped_sum-next.ensures;
    }
