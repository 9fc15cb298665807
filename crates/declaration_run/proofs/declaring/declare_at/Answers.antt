use Rattle.declaration_run.proofs.Loops.{one_more}
use Rattle.declaration_run.proofs.declaring.declare_at.Goals as goal

pub returns-then-agrees-clause-done : goal.returns-then-agrees-clause-done
returns-then-agrees-clause-done g c =
    one_more c.args.connections.now c.args.place c.args.connection.now c.requires.within c.requires.at c.args.catalog.now c.declare_one.new.catalog c.args.groups.now c.requires.done c.declare_one.ensures.stay
    c.in_ok-declare_one.ensures.declared (c.agrees.ensures.yes c.if-agrees.true)
