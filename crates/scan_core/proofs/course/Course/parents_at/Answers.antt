use Rattle.scan_core.proofs.Seats.{some_so}
use Rattle.scan_core.specs.Hearing.{IsAskedAt}
use Rattle.scan_core.proofs.course.Course.parents_at.Goals as goal

pub returns-in-Some : goal.returns-in-Some
returns-in-Some g c = some_so c.args.self.now.parents c.in-Some.parents (λ o. IsAskedAt o.call 0 c.args.seat c.args.asked.now) _ c.in-Some.is c.is_asked_at.ensures
