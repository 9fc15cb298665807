use Rattle.std.proofs.Common.{false, ap, ◌∙◌}
use Rattle.std.specs.Arc.{arc_value}
use Rattle.one_scan.proofs.Begun.{begun_at, begun_is_waiting, begun_at_state}
use Rattle.one_scan.proofs.scan.Scan.begin.Goals as goal

pub invariant_of-result : goal.invariant_of-result
invariant_of-result g c =
    let f = c.in_ok-scope.ensures.fields in (
      begun_at g.W.World.tells g.W.World.book c.in_ok-scope.scope c.in_ok-course.course c.args.request (arc_value c.args.table) c.args.version.0 c.args.version.1 c.into_value-version.result c.args.asked f.0 (ap arc_value f.1) c.in_ok-scope.ensures.sources
          c.in_ok-course.ensures (f.2 ∙ c.number_of.ensures) c.into_value-version.ensures.value c.into_value-version.ensures.sound c.requires.table c.requires.lawful c.requires.tick c.requires.version c.requires.of_book c.into_value-version.ensures.told,
      begun_is_waiting c.in_ok-scope.scope c.in_ok-course.course c.into_value-version.result c.args.window false c.in_ok-course.ensures f.3 c.requires.window.0,
    )

pub returns-clause-state : goal.returns-clause-state
returns-clause-state g c =
    let f = c.in_ok-scope.ensures.fields in
    begun_at_state c.in_ok-scope.scope c.in_ok-course.course c.args.request (arc_value c.args.table) c.into_value-version.result c.args.version.1 c.in_ok-course.ensures f.0 (ap arc_value f.1) c.into_value-version.ensures.value
