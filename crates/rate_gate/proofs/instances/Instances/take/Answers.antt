use Rattle.std.proofs.Common.{rules}
use Rattle.std.specs.Vec.{vec_items}
use Rattle.rate_gate.proofs.Maps.{others_stay}
use Rattle.rate_gate.proofs.instances.Instances.take.Goals as goal

pub returns-in-Some-clause-others : goal.returns-in-Some-clause-others
returns-in-Some-clause-others c =
    others_stay vec_items c.args.key.now c.args.self.now.map (c.get_mut.follows.lender c.take.new.self) _ ((c.get_mut.follows.holds c.take.new.self).3 (search rules))
