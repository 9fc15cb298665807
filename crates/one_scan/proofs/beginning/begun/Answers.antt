use Rattle.std.proofs.Common.{ap}
use Rattle.one_scan.proofs.beginning.begun.Goals as goal

pub returns : goal.returns
returns g c = (c.in_ok-course.course, c.in_ok-course.ensures.begun, ap (λ e. record c.in_ok-course.course { end = e }) c.in_ok-end.ensures)
