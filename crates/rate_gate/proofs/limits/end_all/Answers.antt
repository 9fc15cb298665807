use Rattle.std.proofs.Common.{List, sym, subst}
use Rattle.std.specs.List.{AllByRecursion}
use Rattle.rate_gate.specs.declared.entry.Entry.{Entry}
use Rattle.rate_gate.specs.Instances.{Fits}
use Rattle.rate_gate.proofs.Returns.{all_may_return, all_returned, limiters_returned}
use Rattle.rate_gate.proofs.limits.end_all.Goals as goal

pub give_all-requires : goal.give_all-requires
give_all-requires c = all_may_return c.args.journal.now c.args.number c.args.tags.now c.args.limits.now c.requires.fits c.requires.open

pub returns-clause-fits : goal.returns-clause-fits
returns-clause-fits c =
    subst (λ (j : List Entry). AllByRecursion (Fits j) c.give_all.new.limits) (sym c.give_back.ensures)
    (all_returned c.args.journal.now c.args.number c.args.tick c.args.sent c.args.tags.now c.args.limits.now c.give_all.new.limits c.requires.fits c.requires.open c.requires.since c.give_all.ensures)

pub returns-clause-limiters : goal.returns-clause-limiters
returns-clause-limiters c = limiters_returned c.args.tags.now c.args.limits.now c.give_all.new.limits c.give_all.ensures
