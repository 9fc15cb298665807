use Rattle.std.proofs.lemmas.Result.{on_ok_weaker}
use Rattle.explain_text.proofs.Parts.{six_parts}
use Rattle.explain_text.proofs.lines.push_line.Goals as goal

pub returns : goal.returns
returns c =
    on_ok_weaker c.push_all.result
    (six_parts c.args.text.now.items _ _ _ _ _ _ c.push_head.new.text.items c.push_sent.new.text.items c.push_columns.new.text.items c.push_functions.new.text.items
    c.push_limit.new.text.items c.push_all.new.text.items c.in_ok-push_head.ensures c.in_ok-push_sent.ensures c.in_ok-push_columns.ensures c.in_ok-push_functions.ensures
    c.in_ok-push_limit.ensures)
    c.push_all.ensures
