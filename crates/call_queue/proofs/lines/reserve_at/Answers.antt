use Rattle.std.proofs.Common.{sym, ap, ◌∙◌}
use Rattle.std.proofs.lemmas.Result.{on_ok_weaker}
use Rattle.call_queue.specs.Lines.{with_room}
use Rattle.call_queue.proofs.Naming.{old_line, new_line, other_lines}
use Rattle.call_queue.proofs.lines.reserve_at.Goals as goal

pub returns-clause-ok : goal.returns-clause-ok
returns-clause-ok c =
    on_ok_weaker c.reserve.result
    (λ e name at. (
      new_line c.args.lines.now name c.args.place c.index-lines-place.result c.reserve.new.self at
          ∙ e ∙ ap (with_room c.args.more) (sym (old_line c.args.lines.now name c.args.place c.index-lines-place.result c.reserve.new.self at)),
      other_lines c.args.lines.now name c.args.place c.index-lines-place.result c.reserve.new.self at,
    ))
    c.reserve.ensures.ok
