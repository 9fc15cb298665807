use Rattle.std.proofs.Common.{◌≡◌, drop, ◌++◌, ◌∷◌, [], ◌+◌, List, subst, sym, rules}
use Rattle.statement_words.specs.Answered.{IsAt}
use Rattle.std.specs.Arc.{arc_value}
use Rattle.sp_value.specs.declared.cell.Cell.{Cell}
use Rattle.source_scans.specs.Planned.{IsMadeBy}
use Rattle.statement_words.specs.Course.{less, scan_all}
use Rattle.statement_words.proofs.Advancing.{advances_refl, advances_then, run_later}
use Rattle.statement_words.proofs.Courses.{at_prefix}
use Rattle.source_run.proofs.Steps.{element_is, scan_step, scan_done, scan_pushed}
use Rattle.source_run.proofs.scans.run_scans.Goals as goal

pub loop-request-init : goal.loop-request-init
loop-request-init g c = record { advances = advances_refl _ _ _ _ _; at = λ t o whole more at. let none : c.new-lists.result.items ≡ [] = search rules in subst (λ (xs : List (List (List Cell))). IsAt whole c.args.notes.now (λ vs. scan_all g.W.World.book (arc_value c.args.source.now.table) c.args.source.now.limit xs c.args.requests.now vs more)) (sym none) at }

pub run_next-next-requires-clause-run : goal.run_next-next-requires-clause-run
run_next-next-requires-clause-run g c = run_later _ _ _ c.requires.run c.loop-request.invariant.advances.later

pub run_next-next-requires-clause-made : goal.run_next-next-requires-clause-made
run_next-next-requires-clause-made g c =
    element_is (IsMadeBy c.args.source.now) c.args.requests.now c.loop-request.request-index c.request-item.result c.loop-request-test.true c.request-item.is c.requires.made

pub run_next-next-requires-clause-ready : goal.run_next-next-requires-clause-ready
run_next-next-requires-clause-ready g c = c.requires.ready

pub returns-in-Err-clause-told : goal.returns-in-Err-clause-told
returns-in-Err-clause-told g c =
    λ t o whole more at.
    let table = arc_value c.args.source.now.table in
    let rest = drop (c.loop-request.request-index + 1) c.args.requests.now in
    c.in-Err.ensures.told t o whole
    (λ rows ws. scan_all g.W.World.book table (less c.loop-request.missing rows) (c.loop-request.lists.items ++ rows ∷ []) rest ws more)
    (scan_step g.W.World.book table c.loop-request.missing c.loop-request.lists.items c.args.requests.now c.loop-request.request-index c.request-item.result whole c.loop-request.notes more c.loop-request-test.true c.request-item.is (c.loop-request.invariant.at t o whole more at))

pub returns-in-Err-clause-advances : goal.returns-in-Err-clause-advances
returns-in-Err-clause-advances g c = advances_then _ _ _ _ _ _ _ _ _ c.loop-request.invariant.advances c.run_next-next.ensures.advances

pub returns-in-Err-push-clause-told : goal.returns-in-Err-push-clause-told
returns-in-Err-push-clause-told g c =
    λ t o whole more at.
    let table = arc_value c.args.source.now.table in
    let rest = drop (c.loop-request.request-index + 1) c.args.requests.now in
    at_prefix whole c.run_next-next.new.notes _
    (c.in-Ok.ensures.told t o whole
    (λ rows ws. scan_all g.W.World.book table (less c.loop-request.missing rows) (c.loop-request.lists.items ++ rows ∷ []) rest ws more)
    (scan_step g.W.World.book table c.loop-request.missing c.loop-request.lists.items c.args.requests.now c.loop-request.request-index c.request-item.result whole c.loop-request.notes more c.loop-request-test.true c.request-item.is (c.loop-request.invariant.at t o whole more at)))

pub returns-in-Err-push-clause-advances : goal.returns-in-Err-push-clause-advances
returns-in-Err-push-clause-advances g c = advances_then _ _ _ _ _ _ _ _ _ c.loop-request.invariant.advances c.run_next-next.ensures.advances

pub loop-request-preserved : goal.loop-request-preserved
loop-request-preserved g c =
    record {
      advances = advances_then _ _ _ _ _ _ _ _ _ c.loop-request.invariant.advances c.run_next-next.ensures.advances;
      at = λ t o whole more at.
          let table = arc_value c.args.source.now.table in
          let rest = drop (c.loop-request.request-index + 1) c.args.requests.now in
          scan_pushed g.W.World.book table c.loop-request.missing _ c.loop-request.lists.items _ c.in-Ok.rows rest whole c.run_next-next.new.notes more c.less-missing.ensures c.in-Ok-push.ensures.items
          (c.in-Ok.ensures.told t o whole
          (λ rows ws. scan_all g.W.World.book table (less c.loop-request.missing rows) (c.loop-request.lists.items ++ rows ∷ []) rest ws more)
          (scan_step g.W.World.book table c.loop-request.missing c.loop-request.lists.items c.args.requests.now c.loop-request.request-index c.request-item.result whole c.loop-request.notes more c.loop-request-test.true c.request-item.is (c.loop-request.invariant.at t o whole more at)));
    }

pub returns-clause-told : goal.returns-clause-told
returns-clause-told g c =
    λ t o whole more at.
    scan_done g.W.World.book (arc_value c.args.source.now.table) c.loop-request.missing c.loop-request.lists.items c.args.requests.now c.loop-request.request-index whole c.loop-request.notes more c.loop-request-test.false (c.loop-request.invariant.at t o whole more at)

pub returns-clause-advances : goal.returns-clause-advances
returns-clause-advances g c = c.loop-request.invariant.advances
