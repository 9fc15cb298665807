use Rattle.std.proofs.Common.{◌+◌, drop, map, List, sym, subst}
use Rattle.sp_value.specs.declared.cell.Cell.{Cell}
use Rattle.source_run.specs.Ready.{IsReady}
use Rattle.source_run.specs.Sources.{source_of}
use Rattle.statement_words.specs.Answered.{IsAt}
use Rattle.statement_words.specs.Course.{from_sources}
use Rattle.statement_words.proofs.Advancing.{advances_refl, advances_then, run_later}
use Rattle.statement_words.proofs.Courses.{at_prefix}
use Rattle.source_run.proofs.Steps.{element_is, source_step, source_done}
use Rattle.source_run.proofs.sources.join_sources.Goals as goal

pub returns-in-Err-clause-told : goal.returns-in-Err-clause-told
returns-in-Err-clause-told g c = λ t o plan whole at. at_prefix whole c.args.notes.now _ at

pub returns-in-Err-clause-advances : goal.returns-in-Err-clause-advances
returns-in-Err-clause-advances g c = advances_refl _ _ _ _ _

pub loop-source-init : goal.loop-source-init
loop-source-init g c =
    record {
      advances = advances_refl _ _ _ _ _;
      at = λ t o plan whole at. subst (λ (rows : List (List Cell)). IsAt whole c.args.notes.now (λ vs. from_sources g.W.World.book plan (map source_of c.args.sources.now) rows vs)) (sym c.in-Ok.ensures) at;
    }

pub run_source-next-requires-clause-run : goal.run_source-next-requires-clause-run
run_source-next-requires-clause-run g c = run_later _ _ _ c.requires.run c.loop-source.invariant.advances.later

pub run_source-next-requires-clause-ready : goal.run_source-next-requires-clause-ready
run_source-next-requires-clause-ready g c =
    element_is (IsReady g.W.World.tells g.W.World.book c.args.settings.now.connections) c.args.sources.now c.loop-source.source-index c.source-item.result c.loop-source-test.true c.source-item.is c.requires.ready

pub loop-source-preserved : goal.loop-source-preserved
loop-source-preserved g c =
    record {
      advances = advances_then _ _ _ _ _ _ _ _ _ c.loop-source.invariant.advances c.run_source-next.ensures.advances;
      at = λ t o plan whole at.
          c.in-Ok-next.ensures.told t o whole (λ rows ws. from_sources g.W.World.book plan (map source_of (drop (c.loop-source.source-index + 1) c.args.sources.now)) rows ws)
          (source_step g.W.World.book plan c.args.sources.now c.loop-source.source-index c.source-item.result c.loop-source.left whole c.loop-source.notes c.loop-source-test.true c.source-item.is (c.loop-source.invariant.at t o plan whole at));
    }

pub returns-clause-told : goal.returns-clause-told
returns-clause-told g c =
    λ t o plan whole at.
    source_done g.W.World.book plan c.args.sources.now c.loop-source.source-index c.loop-source.left whole c.loop-source.notes c.loop-source-test.false (c.loop-source.invariant.at t o plan whole at)

pub returns-clause-advances : goal.returns-clause-advances
returns-clause-advances g c = c.loop-source.invariant.advances

pub returns-in-Err-next-clause-told : goal.returns-in-Err-next-clause-told
returns-in-Err-next-clause-told g c =
    λ t o plan whole at.
    c.in-Err-next.ensures.told t o whole (λ rows ws. from_sources g.W.World.book plan (map source_of (drop (c.loop-source.source-index + 1) c.args.sources.now)) rows ws)
    (source_step g.W.World.book plan c.args.sources.now c.loop-source.source-index c.source-item.result c.loop-source.left whole c.loop-source.notes c.loop-source-test.true c.source-item.is (c.loop-source.invariant.at t o plan whole at))

pub returns-in-Err-next-clause-advances : goal.returns-in-Err-next-clause-advances
returns-in-Err-next-clause-advances g c = advances_then _ _ _ _ _ _ _ _ _ c.loop-source.invariant.advances c.run_source-next.ensures.advances

pub returns-in-Err-next-clause-stop : goal.returns-in-Err-next-clause-stop
returns-in-Err-next-clause-stop g c = c.in-Err-next.ensures.stop
