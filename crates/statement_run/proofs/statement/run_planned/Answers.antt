use Rattle.std.proofs.Common.{List, subst, sym}
use Rattle.sp_model.specs.declared.scan.ScanNote.{ScanNote}
use Rattle.statement_words.specs.Advances.{AreTrue}
use Rattle.statement_words.specs.Turns.{AreInTurn, ticks_of}
use Rattle.statement_words.proofs.Turning.{turns_before}
use Rattle.statement_run.proofs.statement.run_planned.Goals as goal

pub returns-clause-notes : goal.returns-clause-notes
returns-clause-notes g c =
    λ telling. subst (AreTrue g.W.World.book c.args.settings.now.options c.args.began) (sym c.answer_of.ensures.notes) (c.run_plan-ran.ensures.notes telling c.args.began c.requires.began)

pub returns-clause-turn : goal.returns-clause-turn
returns-clause-turn g c =
    let over = (g.D.Desk.state c.run_plan-ran.new.desk).tick in
    subst (λ (notes : List ScanNote). AreInTurn c.args.began over (ticks_of notes)) (sym c.answer_of.ensures.notes)
    (turns_before c.args.began (g.D.Desk.state c.args.desk.now).tick over (ticks_of c.run_plan-ran.result.notes) c.requires.began c.run_plan-ran.ensures.turn)
