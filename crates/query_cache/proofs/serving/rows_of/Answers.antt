use Rattle.std.proofs.Common.{List, ap, subst, sym, ◌∙◌}
use Rattle.sp_value.specs.declared.cell.Cell.{Cell}
use Rattle.sp_model.specs.declared.scan.ScanNote.{ScanNote}
use Rattle.query_cache.specs.Places.{rows_by_places}
use Rattle.query_cache.specs.Serving.{AreItsOwn}
use Rattle.query_cache.proofs.Own.{own_rows}
use Rattle.query_cache.proofs.Renaming.{served}
use Rattle.query_cache.proofs.serving.rows_of.Goals as goal

pub returns-clause-rows : goal.returns-clause-rows
returns-clause-rows g c =
    c.in_ok-rows.ensures
    ∙ ap (λ (n : ScanNote). rows_by_places n.request c.rows.result.now c.args.request.now) c.note.ensures.value
    ∙ ap (λ (rows : List (List Cell)). rows_by_places c.args.kept.now.note.request rows c.args.request.now) c.rows.ensures.value
    ∙ served c.args.kept.now c.args.request.now c.note.ensures.form

pub returns-clause-told : goal.returns-clause-told
returns-clause-told g c = λ t.
    subst (λ (rows : List (List Cell)). AreItsOwn g.W.World.book c.args.kept.now c.args.request.now rows) (sym (returns-clause-rows g c))
    (own_rows c.covered_scan_gives_the_rows.ensures c.book_tables_are_sound.ensures g.W.World.book c.args.kept.now c.args.request.now (c.note.ensures.told t) c.requires)
