use Rattle.call_queue.specs.Lines.{LineView}
use Rattle.call_queue.specs.Picking.{HasPicked}
use Rattle.call_queue.proofs.Naming.{old_line, new_line, other_lines, over}
use Rattle.call_queue.proofs.lines.pick_at.Goals as goal

pub returns-clause-picked : goal.returns-clause-picked
returns-clause-picked c = λ name at.
    over (λ (old new : LineView). HasPicked c.args.gate.now c.args.tick old c.pick.result new c.pick.new.gate) _ _ _ _
    (old_line c.args.lines.now name c.args.place c.index-lines-place.result c.pick.new.self at)
    (new_line c.args.lines.now name c.args.place c.index-lines-place.result c.pick.new.self at) c.pick.ensures

pub returns-clause-others : goal.returns-clause-others
returns-clause-others c = λ name at. other_lines c.args.lines.now name c.args.place c.index-lines-place.result c.pick.new.self at
