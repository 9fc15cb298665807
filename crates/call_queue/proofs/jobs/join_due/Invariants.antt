use Rattle.std.proofs.Common.{◌≡◌, ◌+◌, ◌++◌, not, filter}
use Rattle.std.specs.VecDeque.{deque_len, deque_capacity}
use Rattle.call_queue.specs.Lines.{is_due}
use Rattle.call_queue.specs.Order.{IsByDue}
use Rattle.call_queue.proofs.jobs.join_due.Given as goal

abbrev pub invariant-loop-ready : goal.invariant-loop-ready
invariant-loop-ready l = record {
  order : IsByDue l.waiting.items;
  ready : l.ready.items ++ filter (is_due l.tick) l.waiting.items ≡ l.fn.ready.items ++ filter (is_due l.tick) l.fn.waiting.items;
  waiting : filter (λ job. not (is_due l.tick job)) l.waiting.items ≡ filter (λ job. not (is_due l.tick job)) l.fn.waiting.items;
  len : deque_len l.ready + deque_len l.waiting ≡ deque_len l.fn.ready + deque_len l.fn.waiting;
  ready_capacity : deque_capacity l.ready ≡ deque_capacity l.fn.ready;
  waiting_capacity : deque_capacity l.waiting ≡ deque_capacity l.fn.waiting;
}

abbrev pub decreases-loop-ready : goal.decreases-loop-ready
decreases-loop-ready l = deque_len l.waiting
