use Rattle.std.proofs.Common.{◌≡◌, ◌⊎◌, subst, sym, ◌∙◌, arith}
use Rattle.sp_model.specs.declared.settings.Settings.{Settings}
use Rattle.sql_bind.specs.Answer.{needed}
use Rattle.statement_words.specs.Advances.{AreTrue}
use Rattle.statement_words.specs.Turns.{AreInTurn, ticks_of}
use Rattle.statement_run.specs.Answers.{plain_answer, IsStatementAnswer, IsByNeeded}
use Rattle.statement_run.specs.declared.answer.Answer.{Answer}
use Rattle.statement_run.specs.declared.answer.AnswerEnd.TheVariants as ends
use Rattle.statement_run.proofs.Running.{early_answer}
use Rattle.statement_run.proofs.statement.run_read.Goals as goal

pub returns-in-Ok-clause-notes : goal.returns-in-Ok-clause-notes
returns-in-Ok-clause-notes g c =
    λ t. subst (λ (x : Settings). AreTrue g.W.World.book x.options c.args.began c.run_planned.result.notes) (c.settings.ensures ∙ c.ready_plan.ensures.settings) (c.run_planned.ensures.notes t)

pub returns-in-Err-clause-answer : goal.returns-in-Err-clause-answer
returns-in-Err-clause-answer g c =
    let settings = c.args.catalog.now.settings in
    let early = early_answer g.W.World.tells g.W.World.book (g.D.Desk.state c.ready_plan.new.desk) settings c.args.statement.now c.args.began c.in-Err.end c.in-Err.ensures.early in
    λ t o. subst (λ (a : Answer). (a ≡ plain_answer c.args.began ends.Memory) ⊎ IsStatementAnswer g.W.World.book settings a c.args.statement.now) (sym c.plain_answer.ensures) (early.0 t)

pub returns-in-Err-clause-text : goal.returns-in-Err-clause-text
returns-in-Err-clause-text g c =
    let settings = c.args.catalog.now.settings in
    let early = early_answer g.W.World.tells g.W.World.book (g.D.Desk.state c.ready_plan.new.desk) settings c.args.statement.now c.args.began c.in-Err.end c.in-Err.ensures.early in
    subst (λ (a : Answer). (a ≡ plain_answer c.args.began ends.Memory) ⊎ IsByNeeded a (needed settings c.args.statement.now)) (sym c.plain_answer.ensures) early.1

pub returns-in-Err-clause-turn : goal.returns-in-Err-clause-turn
returns-in-Err-clause-turn g c =
    subst (λ (a : Answer). AreInTurn c.args.began (g.D.Desk.state c.ready_plan.new.desk).tick (ticks_of a.notes)) (sym c.plain_answer.ensures)
    (omega (arith, c.requires.began, c.ready_plan.ensures.state.tick))
