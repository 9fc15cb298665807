use Rattle.std.proofs.Common.{◌∙◌, ap}
use Rattle.sp_world.specs.ReplyLines.{seen}
use Rattle.std.proofs.Common.{Ok}
use Rattle.child_link.proofs.Finding.{fit_reads}
use Rattle.child_link.proofs.Holding.{settled}
use Rattle.child_link.proofs.receiving.settle.Goals as goal

pub returns-in-Ok-Fit-clause-holds : goal.returns-in-Ok-Fit-clause-holds
returns-in-Ok-Fit-clause-holds g c =
    let p = c.args.parts.now in
    settled g.W.World.tells g.W.World.book (g.C.Child.log p.child) (g.C.Child.last p.child) (g.C.Child.gives p.child) p.kept p.up p.flights.items c.requires.holds c.in-Some.bytes (seen c.in-Ok-Fit.line) c.arrive.new.flights.items
    c.in-Some.is c.requires.up (fit_reads c.look-looked.result _ c.in-Some.bytes c.as_slice.result.now c.in-Ok-Fit.at c.in-Ok-Fit.asked c.in-Ok-Fit.line c.as_slice.ensures c.look-looked.ensures (c.in-Ok-Fit.is ∙ ap Ok c.in-Ok-Fit.field-0-is))
    (c.arrive.ensures.calls)
