use Rattle.std.proofs.Common.{subst}
use Rattle.rate_gate.specs.Limits.{GateView, KeepsLimiters}
use Rattle.rate_gate.proofs.Grants.{all_keep}
use Rattle.rate_gate.proofs.gate.Gate.journal.Goals as goal

pub returns-clause-law : goal.returns-clause-law
returns-clause-law c =
    subst (λ (v : GateView). KeepsLimiters v.limiters v.journal) c.self.view_is
    (record { ordered = c.last.ensures.ordered; limits = all_keep c.self.inside.journal c.self.inside.limits.items c.self.invariant })
