use Rattle.std.proofs.Common.{◌≡◌, List, [], ◌∷◌, ◌++◌, Option, Some, ap, sym, subst}
use Rattle.rate_gate.specs.Asking.{IsGranted}
use Rattle.rate_gate.specs.Journal.{IsOrdered, count_grants}
use Rattle.rate_gate.specs.Limits.{GateView}
use Rattle.rate_gate.specs.declared.entry.Entry.TheVariants.{Grant}
use Rattle.rate_gate.specs.declared.permit.Used.{Used}
use Rattle.worked_limits.specs.Held.{AreHeld}
use Rattle.worked_limits.proofs.Places.{granted}
use Rattle.worked_limits.proofs.holding.ask.Goals as goal

pub returns : goal.returns
returns c =
    let g : IsGranted c.args.gate.now c.args.tags.now c.args.tick c.ask.new.self c.in_ok-permit.permit = c.in_ok-permit.ensures in
    let noted : c.ask.new.self.journal ≡ c.args.gate.now.journal ++ Grant c.in_ok-permit.permit.number c.in_ok-permit.permit.tags c.args.tick ∷ [] = ap (λ (v : GateView). v.journal) g.after in
    let is : c.ask.new.self.journal ≡ c.args.gate.now.journal ++ Grant c.into_used.result.number c.into_used.result.tags c.args.tick ∷ [] = cc in
    let number : c.into_used.result.number ≡ count_grants c.args.gate.now.journal = cc (g.number) in
    let ordered : IsOrdered c.args.gate.now.journal = subst IsOrdered c.journal.ensures.journal c.entries.ensures.ordered in
    let items : c.push_reserved.new.self.items ≡ c.args.held.now.items ++ Some c.into_used.result ∷ [] = cc in
    subst (λ (held : List (Option Used)). AreHeld c.ask.new.self.journal held) (sym items) (granted _ _ _ _ _ ordered c.requires.held c.requires.range number is)
