use Rattle.std.proofs.Common.{subst}
use Rattle.std.specs.Arc.{arc_value}
use Rattle.sp_model.specs.declared.scan.ScanRequest.{ScanRequest}
use Rattle.statement_words.specs.Answered.{IsScanned}
use Rattle.statement_words.specs.Course.{lowered}
use Rattle.statement_words.proofs.Advancing.{advances_refl}
use Rattle.statement_words.proofs.Courses.{at_prefix, scanned_goes}
use Rattle.source_run.proofs.Steps.{made_lowered, plain_lowered, book_lowered}
use Rattle.source_run.proofs.scans.run_lowered.Goals as goal

pub run_scan-requires-clause-run : goal.run_scan-requires-clause-run
run_scan-requires-clause-run g c = c.requires.run

pub run_scan-requires-clause-scan_of : goal.run_scan-requires-clause-scan_of
run_scan-requires-clause-scan_of g c =
    made_lowered g.W.World.tells g.W.World.book c.args.settings.now.connections c.args.source.now c.args.request.now c.in-Ok.request c.args.missing c.in-Ok.ensures c.requires.missing c.requires.ready c.requires.made

pub run_scan-requires-clause-plain : goal.run_scan-requires-clause-plain
run_scan-requires-clause-plain g c =
    plain_lowered g.W.World.tells g.W.World.book c.args.settings.now.connections c.args.source.now c.args.request.now c.in-Ok.request c.args.missing c.in-Ok.ensures c.requires.ready c.requires.made

pub run_scan-requires-clause-of_book : goal.run_scan-requires-clause-of_book
run_scan-requires-clause-of_book g c =
    λ t. book_lowered g.W.World.tells g.W.World.book c.args.settings.now.connections c.args.source.now c.args.request.now c.in-Ok.request c.args.missing c.in-Ok.ensures c.requires.ready c.requires.made t

pub returns-in-Ok-clause-told : goal.returns-in-Ok-clause-told
returns-in-Ok-clause-told g c =
    λ t o whole more at.
    let table = arc_value c.args.source.now.table in
    scanned_goes g.W.World.book table (lowered c.args.missing c.args.request.now) whole c.args.notes.now c.run_scan.new.notes more c.run_scan.result
    (subst (λ (r : ScanRequest). IsScanned g.W.World.book table r c.args.notes.now c.run_scan.new.notes c.run_scan.result) c.in-Ok.ensures (c.run_scan.ensures.told t o)) at

pub returns-in-Ok-clause-advances : goal.returns-in-Ok-clause-advances
returns-in-Ok-clause-advances g c = c.run_scan.ensures.advances

pub returns-in-Err-clause-told : goal.returns-in-Err-clause-told
returns-in-Err-clause-told g c = λ t o whole more at. at_prefix whole c.args.notes.now _ at

pub returns-in-Err-clause-advances : goal.returns-in-Err-clause-advances
returns-in-Err-clause-advances g c = advances_refl _ _ _ _ _
