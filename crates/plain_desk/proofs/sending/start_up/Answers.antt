use Rattle.std.proofs.Common.{refl, is_ok}
use Rattle.plain_desk.proofs.Hearing.{started_lawfully}
use Rattle.plain_desk.proofs.sending.start_up.Goals as goal

pub returns-in-Ok-clause-lawful : goal.returns-in-Ok-clause-lawful
returns-in-Ok-clause-lawful g c =
    started_lawfully g.W.World.tells g.W.World.book g.C.Child.connection g.C.Child.log c.args.parts.now _ (is_ok c.restart.result) c.restart.ensures.own c.restart.ensures.log refl c.requires.lawful
