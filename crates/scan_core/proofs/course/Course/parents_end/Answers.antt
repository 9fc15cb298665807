use Rattle.std.proofs.Common.{◌≡◌, length, arith, sym, ap, ◌∙◌, Some}
use Rattle.sp_model.specs.Settling.{judged}
use Rattle.scan_core.proofs.Fronts.{all_decided}
use Rattle.scan_core.proofs.Nexting.{says_refuse}
use Rattle.scan_core.specs.Calls.{outer_of, outer_view, inner_view}
use Rattle.scan_core.specs.Courses.{undecided}
use Rattle.scan_core.proofs.course.Course.parents_end.Goals as goal

pub returns-in-Fail : goal.returns-in-Fail
returns-in-Fail g c =
    let v = c.requires.verdict in
    let w = says_refuse c.args.scope.now.parents.rule c.args.parents.now.call.stream.call.attempt v.0 (sym c.in-Fail.is ∙ v.2) in
    let none : length (undecided c.args.self.now) ≡ 0 = omega arith in (
      w.0,
      record {
        outer = outer_of c.args.parents.now;
        ending = v.0;
        is = ap outer_view c.requires.is;
        closed = ap (inner_view c.args.scope.now.items c.args.self.now.walk) c.requires.closed;
        walked = c.requires.walked;
        came = v.1;
        means = ap (λ s. judged s.rule c.args.parents.now.call.stream.call.attempt (Some v.0)) (sym c.requires.sources.parents) ∙ w.1;
      },
      (all_decided c.args.self.now.before (undecided c.args.self.now) none).0,
    )
