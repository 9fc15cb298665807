use Rattle.std.proofs.Common.{◌∷◌, [], List, map, sym, subst}
use Rattle.std.specs.Prelude.{All}
use Rattle.source_run.specs.Ready.{IsReady}
use Rattle.plan_run.specs.Statements.{statement_of}
use Rattle.source_run.specs.Sources.{source_of}
use Rattle.source_scans.specs.declared.source.PlanSource.{PlanSource}
use Rattle.statement_words.specs.Answered.{IsAt}
use Rattle.statement_words.specs.Course.{from_sources}
use Rattle.statement_words.proofs.Courses.{at_prefix, sources_done}
use Rattle.plan_run.proofs.plan.run_sources.Goals as goal

pub join_sources-requires-clause-run : goal.join_sources-requires-clause-run
join_sources-requires-clause-run g c = c.requires.run

pub join_sources-requires-clause-ready : goal.join_sources-requires-clause-ready
join_sources-requires-clause-ready g c =
    subst (λ (ss : List PlanSource). All (IsReady g.W.World.tells g.W.World.book c.args.settings.now.connections) ss) (sym c.as_slice-sources.ensures) c.requires.ready

pub returns-in-Ok-finish-clause-told : goal.returns-in-Ok-finish-clause-told
returns-in-Ok-finish-clause-told g c =
    λ t o whole at.
    let plan = statement_of c.args.plan.now in
    sources_done g.W.World.book plan c.in-Ok.rows c.in-Ok-finish.rows whole c.join_sources.new.notes c.in-Ok-finish.ensures
    (c.in-Ok.ensures.told t o plan whole
    (subst (λ (ss : List PlanSource). IsAt whole c.args.notes.now (λ vs. from_sources g.W.World.book plan (map source_of ss) ([] ∷ []) vs)) (sym c.as_slice-sources.ensures) at))

pub returns-in-Ok-finish-clause-advances : goal.returns-in-Ok-finish-clause-advances
returns-in-Ok-finish-clause-advances g c = c.join_sources.ensures.advances

pub returns-in-Err-finish-clause-told : goal.returns-in-Err-finish-clause-told
returns-in-Err-finish-clause-told g c =
    λ t o whole at.
    let plan = statement_of c.args.plan.now in
    at_prefix whole c.join_sources.new.notes _
    (c.in-Ok.ensures.told t o plan whole
    (subst (λ (ss : List PlanSource). IsAt whole c.args.notes.now (λ vs. from_sources g.W.World.book plan (map source_of ss) ([] ∷ []) vs)) (sym c.as_slice-sources.ensures) at))

pub returns-in-Err-finish-clause-advances : goal.returns-in-Err-finish-clause-advances
returns-in-Err-finish-clause-advances g c = c.join_sources.ensures.advances

pub returns-in-Err-clause-told : goal.returns-in-Err-clause-told
returns-in-Err-clause-told g c =
    λ t o whole at.
    let plan = statement_of c.args.plan.now in
    c.in-Err.ensures.told t o plan whole
    (subst (λ (ss : List PlanSource). IsAt whole c.args.notes.now (λ vs. from_sources g.W.World.book plan (map source_of ss) ([] ∷ []) vs)) (sym c.as_slice-sources.ensures) at)

pub returns-in-Err-clause-advances : goal.returns-in-Err-clause-advances
returns-in-Err-clause-advances g c = c.join_sources.ensures.advances

pub returns-in-Err-clause-stop : goal.returns-in-Err-clause-stop
returns-in-Err-clause-stop g c = c.in-Err.ensures.stop
