use Rattle.std.proofs.Common.{◌++◌, drop, ap, sym, ◌∙◌}
use Rattle.std.proofs.lemmas.Result.{on_ok_weaker}
use Rattle.answer_text.proofs.Rests.{no_names}
use Rattle.answer_text.proofs.table_text.push_names.Goals as goal

pub returns-in_default : goal.returns-in_default
returns-in_default c =
    let l = c.loop-width in
    on_ok_weaker c.push_all-in_default.result
    (λ e. e ∙ ap (λ r. l.text.items ++ r) (sym (no_names (drop l.width-index c.args.widths.now) l.left.now c.in_default.len_below)) ∙ l.invariant)
    c.push_all-in_default.ensures
