use Rattle.std.proofs.Common.{◌++◌, drop, ap, sym, ◌∙◌}
use Rattle.std.proofs.lemmas.Result.{on_ok_weaker}
use Rattle.answer_text.proofs.Rests.{no_kinds, no_cells}
use Rattle.answer_text.proofs.table_text.push_row.Goals as goal

pub returns-in_default : goal.returns-in_default
returns-in_default c =
    let l = c.loop-width in
    on_ok_weaker c.push_all-in_default.result
    (λ e. e ∙ ap (λ r. l.text.items ++ r) (sym (no_kinds (drop l.width-index c.args.widths.now) l.kinds_left.now l.cells.now c.in_default.len_below)) ∙ l.invariant)
    c.push_all-in_default.ensures

pub returns-in_default-cells : goal.returns-in_default-cells
returns-in_default-cells c =
    let l = c.loop-width in
    on_ok_weaker c.push_all-in_default-cells.result
    (λ e. e ∙ ap (λ r. l.text.items ++ r) (sym (no_cells (drop l.width-index c.args.widths.now) l.kinds_left.now l.cells.now c.in_default-cells.len_below)) ∙ l.invariant)
    c.push_all-in_default-cells.ensures
