use Rattle.std.proofs.Common.{◌<◌, sym, ap, subst, ◌∙◌}
use Rattle.std.proofs.lemmas.Result.{on_ok_weaker}
use Rattle.call_queue.specs.Lines.{LineView, with_job}
use Rattle.call_queue.proofs.Naming.{old_line, new_line, other_lines}
use Rattle.call_queue.proofs.lines.push_at.Goals as goal

pub returns-clause-ok : goal.returns-clause-ok
returns-clause-ok c =
    on_ok_weaker c.push.result
    (λ e. new_line c.args.lines.now c.args.job.tags.connection c.args.place c.index-lines-place.result c.push.new.self c.requires
    ∙ e ∙ ap (with_job c.args.job) (sym (old_line c.args.lines.now c.args.job.tags.connection c.args.place c.index-lines-place.result c.push.new.self c.requires)))
    c.push.ensures.ok

pub returns-clause-others : goal.returns-clause-others
returns-clause-others c = other_lines c.args.lines.now c.args.job.tags.connection c.args.place c.index-lines-place.result c.push.new.self c.requires

pub returns-clause-room : goal.returns-clause-room
returns-clause-room c = λ h.
    c.push.ensures.room (subst (λ (l : LineView). 0 < l.room) (old_line c.args.lines.now c.args.job.tags.connection c.args.place c.index-lines-place.result c.push.new.self c.requires) h)
