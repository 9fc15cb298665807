use Rattle.serde_json.specs.View.{view}
use Rattle.declaration_run.proofs.Reading.{told_value, read_as, unread_as, was_read}
use Rattle.declaration_run.proofs.asking.read_told.Goals as goal

pub returns-clause-declared : goal.returns-clause-declared
returns-clause-declared g c =
    read_as g.W.World.tells g.W.World.book c.args.connection.now (view c.get.result.now)
    (told_value g.W.World.tells g.W.World.book c.args.connection.now c.args.told.0 c.args.told.1 c.get.result.now c.requires c.get.ensures.value c.get.ensures.told)
    c.read.result c.read.ensures

pub returns-clause-read : goal.returns-clause-read
returns-clause-read g c = was_read c.args.connection.now (view c.get.result.now) c.read.result c.read.ensures

pub returns-clause-undeclared : goal.returns-clause-undeclared
returns-clause-undeclared g c = λ s.
    unread_as g.W.World.tells g.W.World.book c.args.connection.now (view c.get.result.now)
    (told_value g.W.World.tells g.W.World.book c.args.connection.now c.args.told.0 c.args.told.1 c.get.result.now c.requires c.get.ensures.value c.get.ensures.told)
    c.read.result c.read.ensures s
