use Rattle.std.proofs.Common.{rules, arith}
use Rattle.std.proofs.lemmas.List.Sorted.{IsPartitionPoint-from_clause, IsPartitionedBy-leb}
use Rattle.call_jobs.specs.declared.job.Job.{Job}
use Rattle.call_queue.specs.Lines.{is_due}
use Rattle.call_queue.proofs.ByDue.{not_falling, point_is}
use Rattle.call_queue.proofs.jobs.count_due.Goals as goal

pub returns-clause-count : goal.returns-clause-count
returns-clause-count c =
    let parted = IsPartitionedBy-leb (λ (job : Job). job.due) c.args.jobs.now.items c.args.tick (not_falling c.args.jobs.now.items c.requires) in
    let point = IsPartitionPoint-from_clause (is_due c.args.tick) c.args.jobs.now.items c.partition_point.result c.partition_point.ensures.partitioned parted (λ a r q k. search rules) in
    point_is (is_due c.args.tick) c.args.jobs.now.items c.partition_point.result (omega (arith, c.args.jobs.now.ok.0, c.partition_point.ensures.bound)) point
