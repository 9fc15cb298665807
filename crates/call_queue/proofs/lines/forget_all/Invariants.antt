use Rattle.std.proofs.Common.{◌≡◌}
use Rattle.call_queue.specs.Queues.{forgotten}
use Rattle.call_queue.proofs.Naming.{changed}
use Rattle.call_queue.proofs.lines.forget_all.Given as goal

abbrev pub invariant-loop-k : goal.invariant-loop-k
invariant-loop-k l = l.lines ≡ changed (forgotten l.session) l.fn.lines l.k
