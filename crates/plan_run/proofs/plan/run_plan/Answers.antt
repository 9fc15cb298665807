use Rattle.std.proofs.Common.{ℕ, ◌∷◌, [], List, sym, subst, arith}
use Rattle.sp_model.specs.declared.scan.ScanNote.{ScanNote}
use Rattle.plan_run.specs.Statements.{statement_of}
use Rattle.statement_words.specs.Advances.{AreTrue}
use Rattle.statement_words.specs.Answered.{IsAt}
use Rattle.statement_words.specs.Course.{course, from_sources}
use Rattle.statement_words.specs.Turns.{AreInTurn, ticks_of}
use Rattle.statement_words.proofs.Courses.{course_begins}
use Rattle.statement_words.proofs.Stops.{later_still, later_then}
use Rattle.plan_run.proofs.Ended.{still_known}
use Rattle.plan_run.proofs.plan.run_plan.Goals as goal

pub run_sources-end-requires-clause-run : goal.run_sources-end-requires-clause-run
run_sources-end-requires-clause-run g c = c.requires.run

pub run_sources-end-requires-clause-ready : goal.run_sources-end-requires-clause-ready
run_sources-end-requires-clause-ready g c = c.requires.ready

pub returns-clause-told : goal.returns-clause-told
returns-clause-told g c =
    λ t o.
    let plan = statement_of c.args.plan.now in
    c.run_sources-end.ensures.told t o (course g.W.World.book plan)
    (subst (λ (notes : List ScanNote). IsAt (course g.W.World.book plan) notes (λ vs. from_sources g.W.World.book plan plan.sources ([] ∷ []) vs)) (sym c.new-notes.ensures)
    (course_begins g.W.World.book plan))

pub returns-clause-notes : goal.returns-clause-notes
returns-clause-notes g c =
    λ t began le.
    c.run_sources-end.ensures.advances.noted t began le
    (subst (λ (notes : List ScanNote). AreTrue g.W.World.book c.args.settings.now.options began notes) (sym c.new-notes.ensures) (λ k n e. absurd (cc)))

pub returns-clause-turn : goal.returns-clause-turn
returns-clause-turn g c =
    let first = (g.D.Desk.state c.args.desk.now).tick in
    let ran = g.D.Desk.state c.run_sources-end.new.desk in
    let none : AreInTurn first first (ticks_of c.new-notes.result) = subst (λ (notes : List ScanNote). AreInTurn first first (ticks_of notes)) (sym c.new-notes.ensures) (omega arith) in
    subst (λ (last : ℕ). AreInTurn first last (ticks_of c.run_sources-end.new.notes)) (sym c.end_statement.ensures.state.tick) (c.run_sources-end.ensures.advances.turn first none)

pub returns-clause-stop : goal.returns-clause-stop
returns-clause-stop g c =
    let ran = g.D.Desk.state c.run_sources-end.new.desk in
    let ended = g.D.Desk.state c.end_statement.new.self in
    still_known ran ended c.run_sources-end.result (later_still ran ended c.end_statement.ensures.state) c.run_sources-end.ensures.stop

pub returns-clause-desk : goal.returns-clause-desk
returns-clause-desk g c =
    let ran = g.D.Desk.state c.run_sources-end.new.desk in
    let ended = g.D.Desk.state c.end_statement.new.self in
    later_then (g.D.Desk.state c.args.desk.now) ran ended c.run_sources-end.ensures.advances.later (later_still ran ended c.end_statement.ensures.state)
