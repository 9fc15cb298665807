use Rattle.std.proofs.Common.{List, [], sym, subst, ap, ◌∙◌}
use Rattle.std.specs.Prelude.{All}
use Rattle.std.specs.Arc.{arc_value}
use Rattle.sp_value.specs.declared.cell.Cell.{Cell}
use Rattle.sp_model.specs.declared.scan.ScanRequest.{ScanRequest}
use Rattle.source_scans.specs.Planned.{IsMadeBy}
use Rattle.statement_words.specs.Answered.{IsAt}
use Rattle.source_run.specs.Sources.{joined_rows, source_of}
use Rattle.statement_words.specs.Course.{scan_all}
use Rattle.statement_words.proofs.Advancing.{advances_refl}
use Rattle.statement_words.proofs.Courses.{at_prefix, source_scans}
use Rattle.source_run.proofs.sources.run_source.Goals as goal

pub next_scans-requires : goal.next_scans-requires
next_scans-requires g c = record { planned = c.requires.ready.planned }

pub returns-in-Err-clause-told : goal.returns-in-Err-clause-told
returns-in-Err-clause-told g c = λ t o whole more at. at_prefix whole c.args.notes.now _ at

pub returns-in-Err-clause-advances : goal.returns-in-Err-clause-advances
returns-in-Err-clause-advances g c = advances_refl _ _ _ _ _

pub run_scans-requires-clause-run : goal.run_scans-requires-clause-run
run_scans-requires-clause-run g c = c.requires.run

pub run_scans-requires-clause-ready : goal.run_scans-requires-clause-ready
run_scans-requires-clause-ready g c = c.requires.ready

pub run_scans-requires-clause-made : goal.run_scans-requires-clause-made
run_scans-requires-clause-made g c =
    subst (λ (rs : List ScanRequest). All (IsMadeBy c.args.source.now) rs) (sym c.as_slice-requests.ensures) c.in-Ok.ensures.made

pub returns-in-Err-run_scans-clause-told : goal.returns-in-Err-run_scans-clause-told
returns-in-Err-run_scans-clause-told g c =
    λ t o whole more at.
    c.in-Err-run_scans.ensures.told t o whole (λ lists ws. more (joined_rows c.args.source.now c.args.left.now lists) ws)
    (subst (λ (rs : List ScanRequest). IsAt whole c.args.notes.now (λ vs. scan_all g.W.World.book (arc_value c.args.source.now.table) c.args.source.now.limit [] rs vs (λ lists ws. more (joined_rows c.args.source.now c.args.left.now lists) ws)))
    (sym (c.as_slice-requests.ensures ∙ c.in-Ok.ensures.requests)) (source_scans g.W.World.book (source_of c.args.source.now) c.args.left.now whole c.args.notes.now more at))

pub returns-in-Err-run_scans-clause-advances : goal.returns-in-Err-run_scans-clause-advances
returns-in-Err-run_scans-clause-advances g c = c.run_scans.ensures.advances

pub returns-in-Err-run_scans-clause-stop : goal.returns-in-Err-run_scans-clause-stop
returns-in-Err-run_scans-clause-stop g c = c.in-Err-run_scans.ensures.stop

pub joined-requires : goal.joined-requires
joined-requires g c = record { picks = c.as_slice.ensures ∙ c.in-Ok.ensures.picks }

pub returns-in-Ok-joined-clause-told : goal.returns-in-Ok-joined-clause-told
returns-in-Ok-joined-clause-told g c =
    λ t o whole more at.
    subst (λ (rows : List (List Cell)). IsAt whole c.run_scans.new.notes (more rows)) (sym c.in-Ok-joined.ensures)
    (c.in-Ok-run_scans.ensures.told t o whole (λ lists ws. more (joined_rows c.args.source.now c.args.left.now lists) ws)
    (subst (λ (rs : List ScanRequest). IsAt whole c.args.notes.now (λ vs. scan_all g.W.World.book (arc_value c.args.source.now.table) c.args.source.now.limit [] rs vs (λ lists ws. more (joined_rows c.args.source.now c.args.left.now lists) ws)))
    (sym (c.as_slice-requests.ensures ∙ c.in-Ok.ensures.requests)) (source_scans g.W.World.book (source_of c.args.source.now) c.args.left.now whole c.args.notes.now more at)))

pub returns-in-Ok-joined-clause-advances : goal.returns-in-Ok-joined-clause-advances
returns-in-Ok-joined-clause-advances g c = c.run_scans.ensures.advances

pub returns-clause-told : goal.returns-clause-told
returns-clause-told g c =
    λ t o whole more at.
    at_prefix whole c.run_scans.new.notes _
    (c.in-Ok-run_scans.ensures.told t o whole (λ lists ws. more (joined_rows c.args.source.now c.args.left.now lists) ws)
    (subst (λ (rs : List ScanRequest). IsAt whole c.args.notes.now (λ vs. scan_all g.W.World.book (arc_value c.args.source.now.table) c.args.source.now.limit [] rs vs (λ lists ws. more (joined_rows c.args.source.now c.args.left.now lists) ws)))
    (sym (c.as_slice-requests.ensures ∙ c.in-Ok.ensures.requests)) (source_scans g.W.World.book (source_of c.args.source.now) c.args.left.now whole c.args.notes.now more at)))

pub returns-clause-advances : goal.returns-clause-advances
returns-clause-advances g c = c.run_scans.ensures.advances
