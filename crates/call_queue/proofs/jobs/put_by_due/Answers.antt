use Rattle.std.proofs.Common.{sym, ap, subst, ◌∙◌}
use Rattle.std.specs.List.{insert}
use Rattle.call_queue.specs.Order.{IsByDue}
use Rattle.call_queue.proofs.ByDue.{put_keeps}
use Rattle.call_queue.proofs.jobs.put_by_due.Goals as goal

pub returns-clause-order : goal.returns-clause-order
returns-clause-order c =
    subst IsByDue (sym (c.in-Ok.ensures.items ∙ ap (λ n. insert c.args.jobs.now.items n c.args.job) c.count_due-place.ensures.count))
    (put_keeps c.args.job c.args.jobs.now.items c.requires.order)
