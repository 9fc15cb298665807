use Rattle.std.proofs.Common.{arith}
use Rattle.scan_core.proofs.Fronts.{undecided_length}
use Rattle.scan_core.proofs.course.Course.undecided_len.Goals as goal

pub returns : goal.returns
returns g c = omega (arith, c.len.ensures, c.len-2.ensures, c.args.self.now.waiting.ok.0, undecided_length c.args.self.now.flight c.args.self.now.waiting.items)
