use Rattle.std.proofs.Common.{◌<◌, length, arith}
use Rattle.std.proofs.lemmas.Bool.Decides.{nat_tests}
use Rattle.scan_core.proofs.Fronts.{has_item, rows_length}
use Rattle.scan_core.proofs.course.Course.has_item.Goals as goal

pub returns-then-not-is_empty-clause-yes : goal.returns-then-not-is_empty-clause-yes
returns-then-not-is_empty-clause-yes g c = λ e.
    let some : 0 < length c.args.self.now.waiting.items = grind (arith, nat_tests, c.args.self.now.waiting.ok.0, c.is_empty.ensures, c.if-not-is_empty.true) in
    let few : c.len.result < c.args.scope.now.window = grind (arith, nat_tests, e) in
    has_item _ _ some (omega (arith, rows_length c.args.self.now.flight, c.len.ensures))
