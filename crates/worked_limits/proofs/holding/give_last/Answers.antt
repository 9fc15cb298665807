use Rattle.std.proofs.Common.{List, Option, subst}
use Rattle.rate_gate.specs.declared.permit.Used.{Used}
use Rattle.worked_limits.specs.Held.{AreOpen}
use Rattle.worked_limits.proofs.holding.give_last.Goals as goal

pub give_beside-requires-clause-open : goal.give_beside-requires-clause-open
give_beside-requires-clause-open c =
    subst (λ (held : List (Option Used)). AreOpen c.args.gate.now.journal held) c.take_last-last.ensures.items c.requires.open
