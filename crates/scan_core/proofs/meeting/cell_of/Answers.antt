use Rattle.std.proofs.Common.{◌∙◌}
use Rattle.scan_core.proofs.Cells.{cell_step}
use Rattle.scan_core.proofs.meeting.cell_of.Goals as goal

pub loop-index-preserved : goal.loop-index-preserved
loop-index-preserved c =
    cell_step c.args.columns.now c.args.cells.now c.loop-index.index c.args.name.now c.index-columns-index.result c.eq.result c.loop-index-test.true c.if-index-cells.false c.index-columns-index.is c.eq.ensures
    c.if-eq.false ∙ c.loop-index.invariant
