-- All are sent where those that are left are.
use Rattle.std.proofs.Common.{◌≡◌, map, drop, option_copied}
use Rattle.statement_plan.specs.Sources.{are_all_sent}
use Rattle.statement_plan.proofs.limits.are_all_sent.Given as goal

abbrev pub invariant-loop-e : goal.invariant-loop-e
invariant-loop-e l =
    are_all_sent l.keys l.of.sources.now l.of.layout.now l.of.source (option_copied l.left) (map (λ e. e.now) (drop l.e-index l.conjuncts))
    ≡ are_all_sent l.keys l.of.sources.now l.of.layout.now l.of.source (option_copied l.fan) (map (λ e. e.now) l.conjuncts)
