use Rattle.std.proofs.Common.{◌∙◌}
use Rattle.std.specs.Vec.{vec_items}
use Rattle.rate_gate.proofs.Maps.{others_stay}
use Rattle.rate_gate.proofs.instances.Instances.add.Goals as goal

pub returns-clause-others : goal.returns-clause-others
returns-clause-others c =
    λ other apart.
    others_stay vec_items c.in_ok-stored.stored.items c.args.self.now.map c.insert.new.self _ c.in_ok-insert.ensures.updates other (λ e. apart (e ∙ c.in_ok-stored.ensures.items))
