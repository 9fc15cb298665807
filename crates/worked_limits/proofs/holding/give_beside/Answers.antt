use Rattle.std.proofs.Common.{◌≡◌, List, [], ◌∷◌, ◌++◌, Option, Some, true, ap, sym, subst}
use Rattle.rate_gate.specs.Limits.{GateView}
use Rattle.rate_gate.specs.declared.entry.Entry.{Entry}
use Rattle.rate_gate.specs.declared.entry.Entry.TheVariants.{Return}
use Rattle.rate_gate.specs.declared.permit.Used.{Used}
use Rattle.worked_limits.specs.Held.{AreOpen}
use Rattle.worked_limits.proofs.Places.{last_given, last_gone}
use Rattle.worked_limits.proofs.holding.give_beside.Goals as goal

pub returns-in-Some-clause-open : goal.returns-in-Some-clause-open
returns-in-Some-clause-open c =
    let noted : c.give_back.new.self.journal ≡ c.args.gate.now.journal ++ Return c.in-Some.used.number c.args.tick true ∷ [] = ap (λ (v : GateView). v.journal) c.give_back.ensures in
    let were : AreOpen c.args.gate.now.journal (c.args.others.now.items ++ Some c.in-Some.used ∷ []) =
    subst (λ (last : Option Used). AreOpen c.args.gate.now.journal (c.args.others.now.items ++ last ∷ [])) c.in-Some.is c.requires.open in
    subst (λ (journal : List Entry). AreOpen journal c.args.others.now.items) (sym noted) (last_given c.args.gate.now.journal c.args.others.now.items c.args.tick c.in-Some.used were)

pub returns-in-None-clause-open : goal.returns-in-None-clause-open
returns-in-None-clause-open c =
    last_gone c.args.gate.now.journal c.args.others.now.items (subst (λ (last : Option Used). AreOpen c.args.gate.now.journal (c.args.others.now.items ++ last ∷ [])) c.in-None.is c.requires.open)
