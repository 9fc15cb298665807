use Rattle.std.specs.Arc.{arc_value}
use Rattle.statement_words.proofs.Advancing.{advances_refl}
use Rattle.statement_words.proofs.Courses.{next_scanned}
use Rattle.source_run.proofs.Steps.{not_zero, none_missing}
use Rattle.source_run.proofs.scans.run_next.Goals as goal

pub run_lowered-requires-clause-run : goal.run_lowered-requires-clause-run
run_lowered-requires-clause-run g c = c.requires.run

pub run_lowered-requires-clause-made : goal.run_lowered-requires-clause-made
run_lowered-requires-clause-made g c = c.requires.made

pub run_lowered-requires-clause-ready : goal.run_lowered-requires-clause-ready
run_lowered-requires-clause-ready g c = c.requires.ready

pub run_lowered-requires-clause-missing : goal.run_lowered-requires-clause-missing
run_lowered-requires-clause-missing g c = c.wants_none.ensures.some c.if-wants_none.false

pub returns-then-wants_none-clause-told : goal.returns-then-wants_none-clause-told
returns-then-wants_none-clause-told g c =
    λ t o whole more at. none_missing g.W.World.book (arc_value c.args.source.now.table) c.args.missing c.args.request.now c.new.result whole c.args.notes.now more (c.wants_none.ensures.none c.if-wants_none.true) c.new.ensures at

pub returns-then-wants_none-clause-advances : goal.returns-then-wants_none-clause-advances
returns-then-wants_none-clause-advances g c = advances_refl _ _ _ _ _

pub returns-clause-told : goal.returns-clause-told
returns-clause-told g c =
    λ t o whole more at.
    c.run_lowered.ensures.told t o whole more
    (next_scanned g.W.World.book (arc_value c.args.source.now.table) c.args.missing c.args.request.now whole c.args.notes.now more (not_zero c.args.missing (c.wants_none.ensures.some c.if-wants_none.false)) at)

pub returns-clause-advances : goal.returns-clause-advances
returns-clause-advances g c = c.run_lowered.ensures.advances
