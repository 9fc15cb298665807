use Rattle.std.proofs.Common.{◌≡◌, ◌++◌, ◌∷◌, [], rules}
use Rattle.statement_words.specs.Noted.{cached_note}
use Rattle.scan_run.proofs.Scanning.{served_note}
use Rattle.scan_run.proofs.kept.served_scan.Goals as goal

pub returns-in-Ok-add_note-clause-noted : goal.returns-in-Ok-add_note-clause-noted
returns-in-Ok-add_note-clause-noted g c =
    λ t began le.
    let added : c.add_note.new.notes ≡ c.args.notes.now ++ cached_note c.args.request.now c.args.at c.args.kept.now.note ∷ [] = search rules in
    served_note g.W.World.book c.args.settings.now began c.args.at c.args.table.now c.args.request.now c.args.kept.now c.args.notes.now c.add_note.new.notes c.requires.serving (c.note-note.ensures.told t) le added
