use Rattle.std.proofs.Common.{◌∷◌, ◌++◌, [], ◌∙◌, ap}
use Rattle.plain_desk.proofs.Hearing.{waits_lawfully, same_lawfully}
use Rattle.plain_desk.proofs.slot.wait_for.Goals as goal

pub returns-in-Ok-prepare-clause-lawful : goal.returns-in-Ok-prepare-clause-lawful
returns-in-Ok-prepare-clause-lawful g c =
    waits_lawfully g.W.World.tells g.W.World.book g.C.Child.connection g.C.Child.log c.args.parts.now _ c.in-Ok-prepare.call c.args.job c.prepare.ensures.same.0
    (c.push_reserved.ensures.items ∙ ap (λ ps. ps ++ c.in-Ok-prepare.call ∷ []) c.reserve.ensures.items) c.in-Ok-prepare.ensures.ok c.requires.may c.requires.lawful

pub returns-in-Err-clause-lawful : goal.returns-in-Err-clause-lawful
returns-in-Err-clause-lawful g c =
    same_lawfully g.W.World.tells g.W.World.book g.C.Child.connection g.C.Child.log c.args.parts.now _ c.prepare.ensures.same.0 c.reserve.ensures.items c.requires.lawful
