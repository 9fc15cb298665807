use Rattle.std.proofs.Common.{◌<◌, length, arith, ap}
use Rattle.std.proofs.lemmas.Bool.Decides.{nat_tests}
use Rattle.scan_core.proofs.Fronts.{some_first}
use Rattle.scan_core.specs.Calls.{outer_of, outer_view, inner_view}
use Rattle.scan_core.proofs.course.Course.parents_step.Goals as goal

pub returns-then-not-is_empty : goal.returns-then-not-is_empty
returns-then-not-is_empty g c =
    let some : 0 < length c.in-Some.parents.waiting.items = grind (arith, nat_tests, c.in-Some.parents.waiting.ok.0, c.is_empty.ensures, c.if-not-is_empty.true) in
    let first = some_first c.in-Some.parents.waiting.items some in
    record {
      outer = outer_of c.in-Some.parents;
      parent = first.0;
      parents = first.1;
      is = ap outer_view c.in-Some.is;
      closed = ap (inner_view c.args.scope.now.items c.args.self.now.walk) c.requires.closed;
      first = first.2;
    }
