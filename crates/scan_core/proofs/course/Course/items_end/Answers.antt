use Rattle.std.proofs.Common.{◌≡◌, length, arith, refl, sym, ap, ◌∙◌}
use Rattle.scan_core.proofs.Fronts.{all_decided}
use Rattle.scan_core.proofs.Nexting.{says_refuse}
use Rattle.scan_core.specs.Calls.{inner_of, inner_view}
use Rattle.scan_core.specs.Courses.{undecided}
use Rattle.scan_core.proofs.course.Course.items_end.Goals as goal

pub returns-in-Fail : goal.returns-in-Fail
returns-in-Fail g c =
    let v = c.requires.verdict in
    let w = says_refuse c.args.scope.now.items.rule c.args.call.now.call.stream.call.attempt v.0 (sym c.in-Fail.is ∙ v.2) in
    let none : length (undecided c.args.self.now) ≡ 0 = omega (arith, c.undecided_len-undecided.ensures, c.if-undecided-gt0.false) in (
      _,
      w.0,
      record {
        inner = inner_of c.args.scope.now.items c.args.self.now.walk c.args.call.now;
        ending = v.0;
        is = ap (inner_view c.args.scope.now.items c.args.self.now.walk) c.requires.is;
        came = v.1;
        means = w.1;
        counts = refl;
      },
      all_decided _ _ none,
    )
