use Rattle.std.proofs.Common.{sym, ap}
use Rattle.load_gen.specs.Generated.{declaration, or_null}
use Rattle.load_gen.proofs.world.declaration.Goals as goal

pub returns-in-Ok : goal.returns-in-Ok
unfolding declaration
returns-in-Ok c = sym (ap or_null c.in-Ok.ensures.ok)
