use Rattle.std.proofs.Common.{◌^◌, ap, subst, ◌∙◌, arith}
use Rattle.std.specs.Prelude.{IfOk}
use Rattle.sp_model.specs.declared.settings.Settings.{Settings}
use Rattle.statement_words.specs.Turns.{AreInTurn}
use Rattle.statement_words.proofs.Turning.{turns_until}
use Rattle.run_lines.specs.Blocks.{AreAnswers, AreByText, AreTrulyNoted, block_ticks}
use Rattle.run_lines.proofs.BlockLaws.{ok_maps}
use Rattle.run_lines.proofs.ChildLaws.{none_declared}
use Rattle.run_lines.proofs.LostLaws.{all_lost}
use Rattle.run_lines.proofs.run.run_over.Goals as goal

pub answer_lines-blocks-requires-clause-told : goal.answer_lines-blocks-requires-clause-told
answer_lines-blocks-requires-clause-told g c = λ tells connection d found. absurd (none_declared c.args.settings.now c.in-Ok-of.catalog c.in-Ok-of.ensures connection d found)

pub answer_lines-blocks-requires-clause-read : goal.answer_lines-blocks-requires-clause-read
answer_lines-blocks-requires-clause-read g c = λ connection d found. absurd (none_declared c.args.settings.now c.in-Ok-of.catalog c.in-Ok-of.ensures connection d found)

pub returns-clause-told : goal.returns-clause-told
returns-clause-told g c = λ tells only.
    subst (λ (x : Settings). IfOk c.answer_lines-blocks.result (AreAnswers g.W.World.book x c.args.lines.now)) (ap (λ k. k.settings) c.in-Ok-of.ensures) (c.answer_lines-blocks.ensures.told tells only)

pub returns-clause-text : goal.returns-clause-text
returns-clause-text g c =
    subst (λ (x : Settings). IfOk c.answer_lines-blocks.result (AreByText x c.args.lines.now)) (ap (λ k. k.settings) c.in-Ok-of.ensures) c.answer_lines-blocks.ensures.text

pub returns-clause-notes : goal.returns-clause-notes
returns-clause-notes g c = λ tells.
    subst (λ (x : Settings). IfOk c.answer_lines-blocks.result (AreTrulyNoted g.W.World.book x.options)) (ap (λ k. k.settings) c.in-Ok-of.ensures) (c.answer_lines-blocks.ensures.notes tells)

pub returns-clause-lost : goal.returns-clause-lost
returns-clause-lost g c =
    let slots = c.into_slots.result.items in
    ok_maps c.answer_lines-blocks.result _ _
    (λ blocks spent. all_lost g.C.Child g.W.World _ c.args.settings.now slots blocks
    (c.answer_lines-blocks.ensures.state.settings ∙ c.over-desk.ensures.settings ∙ c.in-Ok.ensures) c.into_slots.ensures.gone spent)
    c.answer_lines-blocks.ensures.spent

pub returns-clause-turns : goal.returns-clause-turns
returns-clause-turns g c =
    let clock = c.answer_lines-blocks.new.desk.clock in
    ok_maps c.answer_lines-blocks.result _ _
    (λ blocks turns. turns_until 0 clock.tick (2 ^ 62) (block_ticks c.args.lines.now blocks) (omega (arith, clock.read.0, clock.read.1))
    (subst (λ n. AreInTurn n clock.tick (block_ticks c.args.lines.now blocks)) c.over-desk.ensures.none.0 turns))
    c.answer_lines-blocks.ensures.turns
