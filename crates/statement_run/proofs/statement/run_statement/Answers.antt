use Rattle.std.proofs.Common.{ℕ, ◌≤◌, subst, sym, ap, arith}
use Rattle.sql_bind.specs.Answer.{needed}
use Rattle.statement_words.proofs.Stops.{later_tick, later_then}
use Rattle.desk.specs.States.{DeskState}
use Rattle.statement_words.specs.Advances.{AreTrue}
use Rattle.statement_words.specs.Turns.{AreInTurn, ticks_of}
use Rattle.statement_run.specs.Answers.{answer_ticks, IsStatementAnswer, IsByNeeded}
use Rattle.statement_run.specs.declared.answer.Answer.{Answer}
use Rattle.statement_run.proofs.Running.{read_so}
use Rattle.statement_run.proofs.statement.run_statement.Goals as goal

pub returns-in-Ok-clause-answer : goal.returns-in-Ok-clause-answer
returns-in-Ok-clause-answer g c =
    λ t o. read_so c.args.text.now c.in-Ok.statement (IsStatementAnswer g.W.World.book c.args.catalog.now.settings c.run_read.result) c.now-began.result c.run_read.result c.in-Ok.ensures
    c.run_read.ensures.began (c.run_read.ensures.answer t o)

pub returns-in-Ok-clause-text : goal.returns-in-Ok-clause-text
returns-in-Ok-clause-text g c =
    read_so c.args.text.now c.in-Ok.statement (λ s. IsByNeeded c.run_read.result (needed c.args.catalog.now.settings s)) c.now-began.result c.run_read.result c.in-Ok.ensures
    c.run_read.ensures.began c.run_read.ensures.text

pub returns-in-Ok-clause-notes : goal.returns-in-Ok-clause-notes
returns-in-Ok-clause-notes g c =
    λ t. subst (λ n. AreTrue g.W.World.book c.args.catalog.now.settings.options n c.run_read.result.notes) (sym c.run_read.ensures.began) (c.run_read.ensures.notes t)

pub returns-in-Ok-clause-state : goal.returns-in-Ok-clause-state
returns-in-Ok-clause-state g c =
    later_then (g.D.Desk.state c.args.desk.now) (g.D.Desk.state c.now-began.new.self) (g.D.Desk.state c.run_read.new.desk)
    (later_tick (g.D.Desk.state c.args.desk.now) (g.D.Desk.state c.now-began.new.self) c.now-began.result c.now-began.ensures.later c.now-began.ensures.state) c.run_read.ensures.state

pub returns-in-Ok-clause-turn : goal.returns-in-Ok-clause-turn
returns-in-Ok-clause-turn g c =
    subst (λ (n : ℕ). ((g.D.Desk.state c.args.desk.now).tick ≤ n) × AreInTurn n (g.D.Desk.state c.run_read.new.desk).tick (ticks_of c.run_read.result.notes)) (sym c.run_read.ensures.began)
    (c.now-began.ensures.later, c.run_read.ensures.turn)

pub returns-in-Err-clause-turn : goal.returns-in-Err-clause-turn
returns-in-Err-clause-turn g c =
    let over : c.now-began.result ≤ (g.D.Desk.state c.now-began.new.self).tick = omega (arith, ap (λ (s : DeskState). s.tick) c.now-began.ensures.state) in
    subst (λ (a : Answer). AreInTurn (g.D.Desk.state c.args.desk.now).tick (g.D.Desk.state c.now-began.new.self).tick (answer_ticks a)) (sym c.plain_answer.ensures)
    (c.now-began.ensures.later, over)
