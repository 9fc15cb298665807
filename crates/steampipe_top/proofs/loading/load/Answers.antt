use Rattle.std.proofs.Common.{◌≡◌, List, [], ◌∷◌, sym, subst, ◌∙◌}
use Rattle.input_lines.specs.declared.line.Line.{Line}
use Rattle.load_gen.specs.Summary.{load_settings}
use Rattle.run_lines.specs.Blocks.{AreAnswers, AreByText, AreOver, with_child}
use Rattle.sp_model.specs.declared.settings.Settings.{Settings}
use Rattle.steampipe_top.proofs.Loads.{if_answered}
use Rattle.steampipe_top.specs.Loading.{load_line}
use Rattle.steampipe_top.proofs.loading.load.Goals as goal

pub returns-in-Ok-run_lines-clause-loaded : goal.returns-in-Ok-run_lines-clause-loaded
returns-in-Ok-run_lines-clause-loaded g c =
    let book = g.W.World.book in
    let blocks = c.in-Ok-run_lines.ran.blocks in
    let is : c.in-Ok.settings ≡ load_settings = c.in-Ok.ensures in
    let lines : c.as_slice.result.now ≡ load_line c.args.count ∷ [] = c.as_slice.ensures ∙ c.in-Ok-load_lines.ensures in
    if_answered c.write_load.result _ _ _
    (λ written. record {
      blocks = blocks;
      calls = c.in-Ok-run_lines.ran.calls;
      defined = λ tells only.
          subst (λ (ls : List Line). AreAnswers book load_settings ls blocks) lines
          (subst (λ (s : Settings). AreAnswers book s c.as_slice.result.now blocks) is (c.in-Ok-run_lines.ensures.told tells only));
      text = subst (λ (ls : List Line). AreByText load_settings ls blocks) lines (subst (λ (s : Settings). AreByText s c.as_slice.result.now blocks) is c.in-Ok-run_lines.ensures.text);
      over = subst
          (λ (s : Settings). AreOver g.M.Kid.Child g.W.World 0 (with_child s.connections) (g.M.Nursery.back c.args.nursery.now)
          (g.M.Nursery.back c.run_lines.new.nursery) blocks)
          is c.in-Ok-run_lines.ensures.over;
      counted = c.in-Ok-run_lines.ensures.calls;
      written = written;
    })
    c.write_load.ensures.written
