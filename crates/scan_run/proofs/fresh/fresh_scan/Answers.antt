use Rattle.std.proofs.Common.{ℕ, List, length, refl, sym, ap, ◌∙◌, subst, inl, inr}
use Rattle.std.specs.Prelude.{IfErr}
use Rattle.std.specs.Arc.{arc_value}
use Rattle.sp_model.specs.declared.scan.ScanRequest.{ScanRequest}
use Rattle.sp_model.specs.Walk.{scan_value}
use Rattle.statement_words.specs.Ended.{IsEndOf}
use Rattle.statement_words.specs.Noted.{new_note}
use Rattle.statement_words.specs.Runs.{IsStopOf}
use Rattle.statement_words.proofs.Stops.{later_counted, later_then, spent_stop}
use Rattle.scan_run.proofs.Scanning.{scanned_unnoted, scanned_end, end_same, new_is_true}
use Rattle.scan_run.proofs.fresh.fresh_scan.Goals as goal

pub started-started-requires-clause-settings : goal.started-started-requires-clause-settings
started-started-requires-clause-settings g c = (later_counted _ _ c.next_scan-seats.ensures.state).settings ∙ c.requires.settings

pub started-started-requires-clause-place : goal.started-started-requires-clause-place
started-started-requires-clause-place g c = c.requires.place

pub started-started-requires-clause-scan_of : goal.started-started-requires-clause-scan_of
started-started-requires-clause-scan_of g c = c.requires.scan_of

pub returns-in-Err-clause-told : goal.returns-in-Err-clause-told
returns-in-Err-clause-told g c =
    λ t. scanned_unnoted g.W.World.book (arc_value c.args.table.now) c.args.request.now c.args.notes.now _ _ c.in-Err.stop c.in-Err.ensures.err c.in-Err.ensures.stop

pub returns-in-Err-clause-noted : goal.returns-in-Err-clause-noted
returns-in-Err-clause-noted g c = λ t began le. inl c.in-Err.ensures.err

pub returns-in-Err-clause-taken : goal.returns-in-Err-clause-taken
returns-in-Err-clause-taken g c = inl c.in-Err.ensures.err

pub returns-in-Err-clause-stop : goal.returns-in-Err-clause-stop
returns-in-Err-clause-stop g c = spent_stop _ _ _ _ c.in-Err.ensures.stop

pub returns-in-Err-clause-state : goal.returns-in-Err-clause-state
returns-in-Err-clause-state g c = later_then _ _ _ (later_counted _ _ c.next_scan-seats.ensures.state) c.started-started.ensures.state

pub run_to_end-requires-clause-connection : goal.run_to_end-requires-clause-connection
run_to_end-requires-clause-connection g c = ap (λ (r : ScanRequest). r.connection) c.in-Ok.ensures.request ∙ sym c.requires.named

pub run_to_end-requires-clause-settings : goal.run_to_end-requires-clause-settings
run_to_end-requires-clause-settings g c = (later_then _ _ _ (later_counted _ _ c.next_scan-seats.ensures.state) c.started-started.ensures.state).settings ∙ c.requires.settings

pub run_to_end-requires-clause-place : goal.run_to_end-requires-clause-place
run_to_end-requires-clause-place g c = c.requires.place

pub run_to_end-requires-clause-table : goal.run_to_end-requires-clause-table
run_to_end-requires-clause-table g c = c.in-Ok.ensures.table

pub returns-clause-told : goal.returns-clause-told
returns-clause-told g c =
    λ t.
    scanned_end g.W.World.book (arc_value c.args.table.now) c.args.request.now c.args.notes.now _ (new_note c.args.request.now c.args.at c.in-Ok.scan.version) _ c.run_to_end.result c.in-Ok.ensures.noted refl refl
    (end_same g.W.World.book _ _ _ _ c.in-Ok.scan.version _ _ c.run_to_end.result c.in-Ok.ensures.table c.in-Ok.ensures.request
    (subst (λ (n : List ℕ). IsEndOf (length c.started-started.new.notes) n (scan_value g.W.World.book c.in-Ok.scan.table c.in-Ok.scan.request c.in-Ok.scan.version) c.run_to_end.result) c.requires.named
    (subst (λ (k : ℕ). IsEndOf k c.args.connection.now.name (scan_value g.W.World.book c.in-Ok.scan.table c.in-Ok.scan.request c.in-Ok.scan.version) c.run_to_end.result) c.len-number.ensures (c.run_to_end.ensures.told t))))

pub returns-clause-noted : goal.returns-clause-noted
returns-clause-noted g c =
    λ t began le.
    inr (
      new_note c.args.request.now c.args.at c.in-Ok.scan.version,
      c.in-Ok.ensures.noted,
      new_is_true g.W.World.book c.args.settings.now.options began c.args.at c.args.request.now c.in-Ok.scan.version le (c.in-Ok.ensures.told t),
    )

pub returns-clause-taken : goal.returns-clause-taken
returns-clause-taken g c = inr (new_note c.args.request.now c.args.at c.in-Ok.scan.version, c.in-Ok.ensures.noted, refl)

pub returns-clause-stop : goal.returns-clause-stop
returns-clause-stop g c =
    subst (λ (n : List ℕ). IfErr c.run_to_end.result (IsStopOf (g.D.Desk.state c.run_to_end.new.desk) (length c.started-started.new.notes) n)) c.requires.named
    (subst (λ (k : ℕ). IfErr c.run_to_end.result (IsStopOf (g.D.Desk.state c.run_to_end.new.desk) k c.args.connection.now.name)) c.len-number.ensures c.run_to_end.ensures.err)

pub returns-clause-state : goal.returns-clause-state
returns-clause-state g c = later_then _ _ _ (later_then _ _ _ (later_counted _ _ c.next_scan-seats.ensures.state) c.started-started.ensures.state) c.run_to_end.ensures.state
