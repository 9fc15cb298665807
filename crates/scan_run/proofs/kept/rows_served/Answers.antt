use Rattle.scan_run.proofs.Serving.{served_ok}
use Rattle.scan_run.proofs.kept.rows_served.Goals as goal

pub returns : goal.returns
returns g c =
    λ t filters of_book.
    served_ok g.W.World.book c.args.table.now c.args.kept.now c.args.request.now c.rows_of.result c.requires.covers c.requires.met c.requires.scan_of (c.note-note.ensures.told t) filters of_book (c.rows_of.ensures.told t)
