use Rattle.std.proofs.Common.{◌≡◌, ◌+◌, ◌∷◌, [], ◌++◌, take, sym, subst, ◌∙◌}
use Rattle.sp_model.specs.declared.settings.Settings.{Settings}
use Rattle.statement_words.proofs.Stops.{later_then}
use Rattle.statement_words.specs.Advances.{AreTrue}
use Rattle.statement_words.specs.Runs.{IsGone}
use Rattle.statement_words.specs.Turns.{AreInTurn}
use Rattle.statement_run.specs.Answers.{IsAnswer, IsByText}
use Rattle.run_lines.specs.Blocks.{IsBlockSo, AreBlocksSo, AreTrulyNoted, AllSpent, block_ticks}
use Rattle.run_lines.proofs.BlockLaws.{blocks_more, noted_more, turns_more, spent_more, spent_stays}
use Rattle.run_lines.proofs.lines.answer_lines.Goals as goal

pub loop-line-preserved : goal.loop-line-preserved
loop-line-preserved g c =
    let book = g.W.World.book in
    let settings = c.args.catalog.now.settings in
    let lines = c.args.lines.now in
    let before = c.loop-line in
    let ran = c.answer_line-block in
    let block = ran.result in
    let pushed : c.push.new.self ≡ before.blocks ++ block ∷ [] = c.in-Ok.ensures.ok in
    record {
      settings = ran.ensures.settings ∙ before.invariant.settings;
      catalog = ran.ensures.told;
      read = ran.ensures.read;
      told = λ tells only. subst (AreBlocksSo (IsAnswer book settings) _) (sym pushed)
          (blocks_more (IsAnswer book settings) lines before.line-index c.line-item.result before.blocks block c.loop-line-test.true c.line-item.is
          (before.invariant.told tells only)
          (subst (λ (x : Settings). IsBlockSo (IsAnswer book x) c.line-item.result block) before.invariant.settings (ran.ensures.answer tells only)));
      text = subst (AreBlocksSo (IsByText settings) _) (sym pushed)
          (blocks_more (IsByText settings) lines before.line-index c.line-item.result before.blocks block c.loop-line-test.true c.line-item.is
          before.invariant.text
          (subst (λ (x : Settings). IsBlockSo (IsByText x) c.line-item.result block) before.invariant.settings ran.ensures.text));
      notes = λ tells. subst (AreTrulyNoted book settings.options) (sym pushed)
          (noted_more book settings.options before.blocks block (before.invariant.notes tells)
          (subst (λ (x : Settings). AreTrue book x.options block.answer.began block.answer.notes) before.invariant.settings (ran.ensures.notes tells)));
      turns = subst (λ bs. AreInTurn (g.D.Desk.state c.args.desk.now).tick (g.D.Desk.state ran.new.desk).tick (block_ticks (take (before.line-index + 1) lines) bs)) (sym pushed)
          (turns_more (IsByText settings) (g.D.Desk.state c.args.desk.now).tick (g.D.Desk.state before.desk).tick (g.D.Desk.state ran.new.desk).tick lines before.line-index c.line-item.result before.blocks block
          c.loop-line-test.true c.line-item.is before.invariant.text before.invariant.turns ran.ensures.turn);
      spent = subst (AllSpent (IsGone (g.D.Desk.state ran.new.desk))) (sym pushed)
          (spent_more (IsGone (g.D.Desk.state ran.new.desk)) before.blocks block
          (spent_stays (g.D.Desk.state before.desk) (g.D.Desk.state ran.new.desk) before.blocks ran.ensures.state before.invariant.spent) ran.ensures.spent);
      state = later_then (g.D.Desk.state c.args.desk.now) (g.D.Desk.state before.desk) (g.D.Desk.state ran.new.desk) before.invariant.state ran.ensures.state;
    }
