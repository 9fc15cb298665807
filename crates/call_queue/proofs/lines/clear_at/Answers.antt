use Rattle.std.proofs.Common.{sym, ap, ◌∙◌}
use Rattle.call_queue.specs.Lines.{emptied}
use Rattle.call_queue.proofs.Naming.{old_line, new_line, other_lines}
use Rattle.call_queue.proofs.lines.clear_at.Goals as goal

pub returns : goal.returns
returns c = λ name at. (
  new_line c.args.lines.now name c.args.place c.index-lines-place.result c.clear.new.self at
      ∙ c.clear.ensures ∙ ap emptied (sym (old_line c.args.lines.now name c.args.place c.index-lines-place.result c.clear.new.self at)),
  other_lines c.args.lines.now name c.args.place c.index-lines-place.result c.clear.new.self at,
)
