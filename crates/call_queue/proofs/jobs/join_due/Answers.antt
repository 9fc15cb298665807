use Rattle.std.proofs.Common.{◌++◌, append-nil, sym, ap, ◌∙◌}
use Rattle.call_queue.proofs.ByDue.{rest_none, rest_all}
use Rattle.call_queue.proofs.jobs.join_due.Goals as goal

pub returns-clause-ready : goal.returns-clause-ready
returns-clause-ready c =
    sym (append-nil c.loop-ready.ready.items)
    ∙ ap (λ jobs. c.loop-ready.ready.items ++ jobs) (sym (rest_none c.args.tick c.loop-ready.waiting.items c.loop-ready.invariant.order c.loop-ready-test.ensures.due))
    ∙ c.loop-ready.invariant.ready

pub returns-clause-waiting : goal.returns-clause-waiting
returns-clause-waiting c =
    sym (rest_all c.args.tick c.loop-ready.waiting.items c.loop-ready.invariant.order c.loop-ready-test.ensures.due) ∙ c.loop-ready.invariant.waiting
