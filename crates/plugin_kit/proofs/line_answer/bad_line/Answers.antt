use Rattle.std.proofs.Common.{take, ap, ◌∙◌}
use Rattle.std.proofs.lemmas.List.{take_min}
use Rattle.plugin_kit.specs.Lines.{kept}
use Rattle.plugin_kit.proofs.line_answer.bad_line.Goals as goal

pub returns-in-Ok-clause-kept : goal.returns-in-Ok-clause-kept
unfolding kept
returns-in-Ok-clause-kept c =
    c.in-Ok.ensures ∙ ap (λ n. take n c.args.line.now) c.min-count.ensures ∙ take_min 68157441 c.args.line.now
