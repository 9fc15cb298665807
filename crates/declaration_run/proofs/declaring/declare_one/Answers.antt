use Rattle.std.proofs.Common.{◌≡◌, false, arith}
use Rattle.std.specs.Prelude.{is_some}
use Rattle.std.proofs.lemmas.Grind.{common_steps}
use Rattle.sql_bind.specs.Known.{declaration_of}
use Rattle.declaration_run.proofs.Catalogs.{told_still, read_still, stays_declared, none_there}
use Rattle.declaration_run.proofs.declaring.declare_one.Goals as goal

pub returns-in-Ok-clause-told : goal.returns-in-Ok-clause-told
returns-in-Ok-clause-told g c = λ t.
    told_still g.W.World.book c.args.catalog.now c.set.new.self c.args.connection.now c.in-Ok.declaration c.set.ensures.declared c.set.ensures.others (c.in-Ok.ensures.declared t) (c.requires.told t)

pub returns-in-Ok-clause-read : goal.returns-in-Ok-clause-read
returns-in-Ok-clause-read g c =
    read_still c.args.catalog.now c.set.new.self c.args.connection.now c.in-Ok.declaration c.set.ensures.declared c.set.ensures.others c.in-Ok.ensures.read c.requires.read

pub returns-in-Ok-clause-stay : goal.returns-in-Ok-clause-stay
returns-in-Ok-clause-stay g c =
    let none : is_some (declaration_of c.args.catalog.now c.args.connection.now) ≡ false = grind (arith, common_steps) in
    stays_declared c.args.catalog.now c.set.new.self c.args.connection.now (none_there (declaration_of c.args.catalog.now c.args.connection.now) none) c.set.ensures.others
