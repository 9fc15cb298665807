use Rattle.std.proofs.Common.{not, nat_eq, sym, subst, arith}
use Rattle.call_jobs.specs.declared.job.Job.{Job}
use Rattle.call_queue.specs.Order.{IsByDue}
use Rattle.call_queue.proofs.ByDue.{filter_by_due}
use Rattle.call_queue.proofs.line.Line.forget.Goals as goal

pub invariant_of-self : goal.invariant_of-self
invariant_of-self c = (
  subst IsByDue (sym c.drop_session-2.ensures.items) (filter_by_due (λ (job : Job). not (nat_eq job.session c.args.session)) c.self.inside.waiting.items c.self.invariant.0),
  omega arith,
  omega arith,
)
