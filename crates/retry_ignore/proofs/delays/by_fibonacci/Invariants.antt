use Rattle.std.proofs.Common.{◌≡◌, ◌-◌, ◌*◌, min}
use Rattle.sp_model.specs.Delays.{fibonacci}
use Rattle.retry_ignore.proofs.delays.by_fibonacci.Given as goal

abbrev pub invariant-loop-step : goal.invariant-loop-step
invariant-loop-step l = record {
  before : l.before ≡ min l.cap (l.interval * fibonacci (l._step - 1));
  now : l.now ≡ min l.cap (l.interval * fibonacci l._step);
}
