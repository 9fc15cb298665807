use Rattle.std.proofs.Common.{refl}
use Rattle.std.specs.Arc.{arc_value}
use Rattle.statement_words.proofs.Advancing.{known_memory}
use Rattle.statement_words.proofs.Stops.{later_tick, later_still, later_then}
use Rattle.scan_run.proofs.Scanning.{known_stop, scanned_memory, advances_still, advances_noted, memory_known, run_at, serving_found}
use Rattle.scan_run.proofs.scan.run_scan.Goals as goal

pub returns-in-Err-clause-told : goal.returns-in-Err-clause-told
returns-in-Err-clause-told g c = λ t o. scanned_memory g.W.World.book (arc_value c.args.table.now) c.args.request.now _ _ c.in-Err.stop c.in-Err.ensures.err refl

pub returns-in-Err-clause-advances : goal.returns-in-Err-clause-advances
returns-in-Err-clause-advances g c =
    advances_still _ _ _ _ _ _ (later_then _ _ _ (later_tick _ _ _ c.now-at.ensures.later c.now-at.ensures.state) (later_still _ _ c.look.ensures.still))

pub returns-in-Err-clause-stop : goal.returns-in-Err-clause-stop
returns-in-Err-clause-stop g c = known_memory _ _ c.in-Err.ensures.err

pub scan_by_kept-requires-clause-serving : goal.scan_by_kept-requires-clause-serving
scan_by_kept-requires-clause-serving g c = serving_found _ _ (g.D.Desk.state c.args.desk.now) _ _ _ _ _ c.now-at.ensures.state c.requires.run.same c.in-Some.is c.in-Ok.ensures.found

pub scan_by_kept-requires-clause-scan_of : goal.scan_by_kept-requires-clause-scan_of
scan_by_kept-requires-clause-scan_of g c = c.requires.scan_of

pub scan_by_kept-requires-clause-of_book : goal.scan_by_kept-requires-clause-of_book
scan_by_kept-requires-clause-of_book g c = c.requires.of_book

pub returns-in-Some-clause-told : goal.returns-in-Some-clause-told
returns-in-Some-clause-told g c = λ t o. c.scan_by_kept.ensures.told t o

pub returns-in-Some-clause-advances : goal.returns-in-Some-clause-advances
returns-in-Some-clause-advances g c =
    advances_noted _ _ _ _ _ _ _ _ c.now-at.result c.now-at.ensures.later c.now-at.ensures.state (later_still _ _ c.look.ensures.still) c.scan_by_kept.ensures.noted c.scan_by_kept.ensures.taken

pub returns-in-Some-clause-stop : goal.returns-in-Some-clause-stop
returns-in-Some-clause-stop g c = memory_known _ c.scan_by_kept.result c.scan_by_kept.ensures.err

pub scan_by_calls-requires-clause-run : goal.scan_by_calls-requires-clause-run
scan_by_calls-requires-clause-run g c = run_at _ _ _ c.requires.run (later_then _ _ _ (later_tick _ _ _ c.now-at.ensures.later c.now-at.ensures.state) (later_still _ _ c.look.ensures.still))

pub scan_by_calls-requires-clause-plain : goal.scan_by_calls-requires-clause-plain
scan_by_calls-requires-clause-plain g c = c.requires.plain

pub scan_by_calls-requires-clause-of_book : goal.scan_by_calls-requires-clause-of_book
scan_by_calls-requires-clause-of_book g c = c.requires.of_book

pub scan_by_calls-requires-clause-scan_of : goal.scan_by_calls-requires-clause-scan_of
scan_by_calls-requires-clause-scan_of g c = c.requires.scan_of

pub returns-in-None-clause-told : goal.returns-in-None-clause-told
returns-in-None-clause-told g c = λ t o. c.scan_by_calls.ensures.told t

pub returns-in-None-clause-advances : goal.returns-in-None-clause-advances
returns-in-None-clause-advances g c =
    advances_noted _ _ _ _ _ _ _ _ c.now-at.result c.now-at.ensures.later c.now-at.ensures.state (later_then _ _ _ (later_still _ _ c.look.ensures.still) c.scan_by_calls.ensures.state)
    c.scan_by_calls.ensures.noted c.scan_by_calls.ensures.taken

pub returns-in-None-clause-stop : goal.returns-in-None-clause-stop
returns-in-None-clause-stop g c = known_stop _ _ _ _ c.scan_by_calls.ensures.stop
